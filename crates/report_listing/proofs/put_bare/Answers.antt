-- `report_listing::put_bare` meets its contract.
-- Assumes nothing.
use Rattle.std.proofs.Common.{arith}
use Rattle.texts.proofs.PutLaws.{one, at_most, both}
use Rattle.report_listing.specs.Listing.{bare_text}
use Rattle.report_listing.proofs.put_bare.Goals as goal

pub returns : goal.returns
unfolding bare_text
returns c = at_most _ (omega arith) (both (one c.put.ensures) c.hexes.ensures)
