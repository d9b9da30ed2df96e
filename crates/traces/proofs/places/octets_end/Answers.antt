-- `traces::places::octets_end` meets its contract.
-- Assumes nothing.
use Rattle.laws.specs.Choice.{when◌then◌else◌}
use Rattle.traces.specs.Places.{octets_end}
use Rattle.std.proofs.Common.{rules}
use Rattle.traces.proofs.WalkLaws.{behind-none, some_found, none_found}
use Rattle.traces.proofs.places.octets_end.Goals as goal

pub returns-then-bad_length : goal.returns-then-bad_length
unfolding octets_end when◌then◌else◌
returns-then-bad_length c = rw (← c.bad_length.ensures, c.if-bad_length.true)

pub returns-in_err-from : goal.returns-in_err-from
unfolding octets_end when◌then◌else◌
returns-in_err-from c = rw (← c.bad_length.ensures, c.if-bad_length.false, none_found _ c.in_err-from.ensures.place, behind-none c.args.s.now _) (search rules)

pub returns : goal.returns
unfolding octets_end when◌then◌else◌
returns c = rw (← c.bad_length.ensures, c.if-bad_length.false, ← c.pair_at.ensures, ← (some_found c.in_ok-from.ensures.place).0) c.behind-2.ensures.place
