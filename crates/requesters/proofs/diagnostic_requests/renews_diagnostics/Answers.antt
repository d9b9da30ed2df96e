-- `requesters::diagnostic_requests::renews_diagnostics` meets its contract.
-- Assumes nothing.
use Rattle.requesters.specs.Internal.{renews_diagnostics}
use Rattle.requesters.proofs.diagnostic_requests.renews_diagnostics.Goals as goal

pub returns-in-Event : goal.returns-in-Event
unfolding renews_diagnostics
returns-in-Event c = rw c.in-Event.is
