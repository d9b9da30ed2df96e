-- `station::timers::elapsed_at` meets its contract.
-- Assumes nothing.
use Rattle.std.proofs.lemmas.Bool.{not-true, not-false}
use Rattle.laws.specs.Choice.{when◌then◌else◌}
use Rattle.model.specs.Clocks.{elapsed_at}
use Rattle.station.specs.Views.{view_timer}
use Rattle.station.proofs.timers.elapsed_at.Goals as goal

pub returns-then-not-t : goal.returns-then-not-t
unfolding view_timer elapsed_at when◌then◌else◌
returns-then-not-t c = rw (not-true c.args.t.started c.if-not-t.true)

pub returns : goal.returns
unfolding view_timer elapsed_at when◌then◌else◌
returns c = rw (not-false c.args.t.started c.if-not-t.false, c.advance.ensures, c.since.ensures)
