-- `report_listing::put_time` meets its contract.
-- Assumes nothing.
use Rattle.texts.proofs.PutLaws.{both}
use Rattle.report_listing.specs.Listing.{time_text}
use Rattle.report_listing.proofs.put_time.Goals as goal

pub returns : goal.returns
unfolding time_text
returns c = both (rw c.pair.ensures at c.put_date.ensures) (rw c.pair-2.ensures at c.put_clock.ensures)
