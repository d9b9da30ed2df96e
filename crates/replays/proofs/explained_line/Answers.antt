-- `replays::explained_line` meets its contract.
-- Assumes nothing.
use Rattle.std.proofs.Common.{lt-ltb, le-ltb}
use Rattle.laws.specs.Choice.{when◌then◌else◌}
use Rattle.replays.specs.Replay.{explained_line}
use Rattle.replays.proofs.explained_line.Goals as goal

pub returns-then-r-trace : goal.returns-then-r-trace
unfolding explained_line when◌then◌else◌
returns-then-r-trace c = rw (← c.part.ensures, ← c.replay-r.ensures, lt-ltb _ _ c.if-r-trace.true) c.trace_refusal_line.ensures

pub returns : goal.returns
unfolding explained_line when◌then◌else◌
returns c = rw (← c.part.ensures, ← c.replay-r.ensures, le-ltb _ _ c.if-r-trace.false, ← c.explain_at.ensures) c.explanation_line.ensures
