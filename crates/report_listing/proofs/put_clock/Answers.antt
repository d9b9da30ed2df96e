-- `report_listing::put_clock` meets its contract.
-- Assumes nothing.
use Rattle.texts.proofs.PutLaws.{both}
use Rattle.report_listing.specs.Listing.{clock_text}
use Rattle.report_listing.proofs.put_clock.Goals as goal

pub returns : goal.returns
unfolding clock_text
returns c = both (both (both c.put_time_octet.ensures c.put_time_octet-2.ensures) c.put_time_octet-3.ensures) c.put_time_field.ensures
