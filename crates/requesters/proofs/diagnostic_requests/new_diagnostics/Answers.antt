-- `requesters::diagnostic_requests::new_diagnostics` meets its contract.
-- Assumes nothing.
use Rattle.laws.specs.Choice.{when◌then◌else◌}
use Rattle.requesters.specs.Views.{view_diagnostics}
use Rattle.requesters.specs.Internal.{new_diagnostics}
use Rattle.requesters.proofs.diagnostic_requests.new_diagnostics.Goals as goal

pub returns-then-asks_cancel : goal.returns-then-asks_cancel
unfolding view_diagnostics new_diagnostics when◌then◌else◌
returns-then-asks_cancel c = rw (← c.asks_cancel.ensures, c.if-asks_cancel.true, c.blank_diagnostics.ensures)

pub returns : goal.returns
unfolding new_diagnostics when◌then◌else◌
returns c = rw (← c.asks_cancel.ensures, c.if-asks_cancel.false, ← c.diagnostics_of.ensures) c.request_of.ensures
