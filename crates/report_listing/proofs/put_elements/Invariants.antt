-- `report_listing::put_elements` meets its contract. The invariant, `Listed`: the elements that were handed out are written, and what is left of the walk gives the rest.
-- Assumes nothing.
use Rattle.std.proofs.Common.{◌-◌, length}
use Rattle.report_listing.specs.Listing.{report_listing_most}
use Rattle.report_listing.proofs.Laws.{Listed}
use Rattle.report_listing.proofs.put_elements.Given as goal

abbrev pub invariant-loop-cursor : goal.invariant-loop-cursor
invariant-loop-cursor l = Listed report_listing_most l.form l.s l.kind l.initial.text l.text l.cursor.at

abbrev pub decreases-loop-cursor : goal.decreases-loop-cursor
decreases-loop-cursor l = length l.s - l.cursor.at
