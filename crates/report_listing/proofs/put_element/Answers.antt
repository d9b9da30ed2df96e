-- `report_listing::put_element` meets its contract.
-- Assumes nothing.
use Rattle.texts.proofs.PutLaws.{one, both}
use Rattle.report_listing.specs.Listing.{report_element_line}
use Rattle.report_listing.proofs.put_element.Goals as goal

pub returns : goal.returns
unfolding report_element_line
returns c = both (both c.put_head.ensures c.put_tail.ensures) (one c.put.ensures)
