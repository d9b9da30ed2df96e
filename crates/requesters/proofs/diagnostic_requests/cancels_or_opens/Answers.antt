-- `requesters::diagnostic_requests::cancels_or_opens` meets its contract.
-- Assumes nothing.
use Rattle.requesters.specs.Internal.{renews_diagnostics}
use Rattle.requesters.proofs.diagnostic_requests.cancels_or_opens.Goals as goal

pub returns-then-asks_cancel : goal.returns-then-asks_cancel
unfolding renews_diagnostics
returns-then-asks_cancel c = rw (← c.asks_cancel.ensures, c.if-asks_cancel.true)

pub returns-else-asks_cancel : goal.returns-else-asks_cancel
unfolding renews_diagnostics
returns-else-asks_cancel c = rw (← c.asks_cancel.ensures, c.if-asks_cancel.false, c.is_repeated.ensures)
