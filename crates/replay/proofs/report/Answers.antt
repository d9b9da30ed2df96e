-- `replay::report` meets its contract.
-- Assumes nothing.
use Rattle.replays.proofs.Laws.{leaves}
use Rattle.replay.proofs.report.Goals as goal

pub returns : goal.returns
returns c = leaves _ _ _ _ c.after-station.ensures c.report_at-r.ensures.outcome
