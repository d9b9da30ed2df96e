-- `traces::places::record_end` meets its contract.
-- Assumes nothing.
use Rattle.laws.specs.Choice.{when◌then◌else◌}
use Rattle.std.proofs.Common.{le-leb, rules}
use Rattle.std.proofs.lemmas.Bool.{lt-leb}
use Rattle.traces.proofs.WalkLaws.{fields-unknown}
use Rattle.traces.specs.Records.{record_end}
use Rattle.traces.proofs.places.record_end.Goals as goal

pub returns-then-s-at : goal.returns-then-s-at
unfolding record_end when◌then◌else◌
returns-then-s-at c = rw (le-leb _ _ c.if-s-at.true)

pub returns : goal.returns
unfolding record_end when◌then◌else◌
returns c = rw (lt-leb _ _ c.if-s-at.false, ← c.in_ok-kind.ensures) c.fields_end.ensures

pub returns-in_err-kind : goal.returns-in_err-kind
unfolding record_end when◌then◌else◌
returns-in_err-kind c = rw (lt-leb _ _ c.if-s-at.false, fields-unknown _ _ _ c.in_err-kind.ensures) (search rules)
