-- `request_listing::put_line` meets its contract.
-- Assumes nothing.
use Rattle.texts.proofs.PutLaws.{one, short, both}
use Rattle.request_listing.specs.Listing.{request_element_line}
use Rattle.request_listing.proofs.put_line.Goals as goal

pub returns : goal.returns
unfolding request_element_line
returns c = both (both (both (rw c.request_id.ensures at c.element_head.ensures) c.put_limit.ensures) (short c.field.ensures)) (one c.put.ensures)
