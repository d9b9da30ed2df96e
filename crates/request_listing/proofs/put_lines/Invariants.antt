-- `request_listing::put_lines` meets its contract. The invariant, `Lining`: the lines of the elements before this one stand there.
-- Assumes nothing.
use Rattle.texts.proofs.PutLaws.{Lining}
use Rattle.request_listing.specs.Listing.{request_element_line, element_most, request_listing_most}
use Rattle.request_listing.proofs.put_lines.Given as goal

abbrev pub invariant-loop-e : goal.invariant-loop-e
invariant-loop-e l = Lining request_listing_most (request_element_line l.kind) element_most l.es l.initial.text l.text l.e-index
