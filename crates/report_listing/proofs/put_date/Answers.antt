-- `report_listing::put_date` meets its contract.
-- Assumes nothing.
use Rattle.texts.proofs.PutLaws.{both}
use Rattle.report_listing.specs.Listing.{date_text}
use Rattle.report_listing.proofs.put_date.Goals as goal

pub returns : goal.returns
unfolding date_text
returns c = both (both c.put_time_field.ensures c.put_time_octet.ensures) c.put_time_octet-2.ensures
