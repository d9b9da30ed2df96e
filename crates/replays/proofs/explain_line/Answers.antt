-- `replays::explain_line` meets its contract.
-- Assumes nothing.
use Rattle.std.proofs.Common.{arith, ne_eqb}
use Rattle.laws.specs.Choice.{when◌then◌else◌}
use Rattle.traces.proofs.WalkLaws.{some_found, none_found}
use Rattle.traces.specs.Records.{record_end}
use Rattle.replays.specs.Replay.{explain_line}
use Rattle.replays.proofs.explain_line.Goals as goal

pub returns-in_default : goal.returns-in_default
unfolding explain_line when◌then◌else◌
returns-in_default c = rw (none_found _ c.in_default.ensures) c.trace_refusal_line.ensures

pub returns : goal.returns
unfolding explain_line when◌then◌else◌
returns c = let is = some_found c.in-Some.ensures in
    rw (ne_eqb (record_end c.args.s.now 0) 0 (omega (arith, is.1)), ← is.0, ← c.part.ensures) c.explained_line.ensures
