-- `report_listing::put_time_field` meets its contract.
-- Assumes nothing.
use Rattle.std.proofs.Common.{rules}
use Rattle.report_listing.proofs.Laws.{time_unknown, time_known}
use Rattle.report_listing.proofs.put_time_field.Goals as goal

pub returns-then-n-ones : goal.returns-then-n-ones
returns-then-n-ones c = time_unknown _ _ _ _ _ _ _ c.if-n-ones.true c.put_two.ensures

pub returns-else-n-ones : goal.returns-else-n-ones
returns-else-n-ones c = time_known _ _ _ _ _ _ _ c.if-n-ones.false (search rules) c.requires (rw c.from.ensures at c.number.ensures)
