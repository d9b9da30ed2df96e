-- `report_listing::put_head` meets its contract.
-- Assumes nothing.
use Rattle.texts.proofs.PutLaws.{short, both}
use Rattle.report_listing.specs.Listing.{head_text}
use Rattle.report_listing.proofs.put_head.Goals as goal

pub returns : goal.returns
unfolding head_text
returns c = both (rw c.report_id.ensures at c.element_head.ensures) (short c.field.ensures)
