-- `requesters::diagnostic_requests::on_time` meets its contract.
-- Assumes nothing.
use Rattle.std.proofs.lemmas.Bool.{not-true, not-false}
use Rattle.laws.specs.Choice.{when◌then◌else◌}
use Rattle.requesters.specs.Views.{view_diagnostics}
use Rattle.model.specs.Diagnostics.{drop_late}
use Rattle.requesters.proofs.diagnostic_requests.on_time.Goals as goal

pub returns-then-not-d : goal.returns-then-not-d
unfolding view_diagnostics drop_late when◌then◌else◌
returns-then-not-d c = rw (not-true c.args.d.outstanding c.if-not-d.true)

pub returns : goal.returns
unfolding view_diagnostics drop_late when◌then◌else◌
returns c = let e = rw c.kept.ensures at c.request_of.ensures in rw (not-false c.args.d.outstanding c.if-not-d.false) e
