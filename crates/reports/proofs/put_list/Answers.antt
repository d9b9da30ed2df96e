-- `reports::put_list` meets its contract: a list past 252 octets is cut there.
-- Assumes nothing.
use Rattle.std.proofs.Common.{refl}
use Rattle.laws.proofs.Arrays.{take_within}
use Rattle.reports.proofs.put_list.Goals as goal

pub returns : goal.returns
returns c = rw (← take_within c.args.list.now _ _ refl 252 c.min.ensures) c.put_report.ensures
