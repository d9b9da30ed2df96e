-- `requesters::diagnostic_requests::is_late` meets its contract.
-- Assumes nothing.
use Rattle.model.specs.Diagnostics.{is_late}
use Rattle.requesters.proofs.diagnostic_requests.is_late.Goals as goal

pub returns : goal.returns
unfolding is_late
returns c = rw (← c.since.ensures, ← c.from_seconds.ensures) c.exceeds.ensures
