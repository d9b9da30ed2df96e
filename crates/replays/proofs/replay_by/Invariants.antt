-- `replays::replay_by` meets its contract. The invariant, `Replaying`: what is left of the trace gives what the whole gives.
-- Assumes nothing.
use Rattle.std.proofs.Common.{◌-◌, length}
use Rattle.station.specs.Views.{view}
use Rattle.replays.proofs.Laws.{Replaying}
use Rattle.replays.proofs.replay_by.Given as goal

abbrev pub invariant-loop-end : goal.invariant-loop-end
invariant-loop-end g l = Replaying l.s l.at (view l.station)

abbrev pub decreases-loop-end : goal.decreases-loop-end
decreases-loop-end g l = length l.s - l.at
