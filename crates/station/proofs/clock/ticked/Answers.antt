-- `station::clock::ticked` meets its contract.
-- Assumes nothing.
use Rattle.station.proofs.StationLaws.{view_ticked}
use Rattle.station.proofs.clock.ticked.Goals as goal

pub returns-clause-viewed : goal.returns-clause-viewed
returns-clause-viewed c = let g = c.args.g in let at = c.advanced-timer.ensures in let drops = rw at at c.late_dropped.ensures in rw at (view_ticked g _ _ drops)
