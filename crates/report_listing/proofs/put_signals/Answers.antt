-- `report_listing::put_signals` meets its contract.
-- Assumes nothing.
use Rattle.texts.proofs.PutLaws.{short, both}
use Rattle.report_listing.specs.Listing.{signals_text}
use Rattle.report_listing.proofs.put_signals.Goals as goal

pub returns : goal.returns
unfolding signals_text
returns c = both (both (both (short c.field.ensures) (short c.field-2.ensures)) (short c.field-3.ensures)) (short c.field-4.ensures)
