-- `traces::places::behind` meets its contract.
-- Assumes nothing.
use Rattle.laws.specs.Choice.{when◌then◌else◌}
use Rattle.std.proofs.Common.{arith, ◌+◌, length, ne_eqb, le-ltb, sym}
use Rattle.traces.specs.Places.{place_behind_record}
use Rattle.traces.proofs.WalkLaws.{behind-past, behind-none, is_found}
use Rattle.traces.proofs.places.behind.Goals as goal

pub returns-then-at-eq0-clause-place : goal.returns-then-at-eq0-clause-place
returns-then-at-eq0-clause-place c = let a = c.args in rw (c.if-at-eq0.true, behind-none a.s.now a.n)

pub returns-then-s-at-clause-place : goal.returns-then-s-at-clause-place
returns-then-s-at-clause-place c = let a = c.args in rw (behind-past a.s.now a.at a.n (omega arith))

pub returns-then-s-at-2-clause-place : goal.returns-then-s-at-2-clause-place
returns-then-s-at-2-clause-place c = let a = c.args in rw (behind-past a.s.now a.at a.n (omega arith))

pub returns-clause-place : goal.returns-clause-place
unfolding place_behind_record when◌then◌else◌
returns-clause-place c = let a = c.args in
    rw (ne_eqb a.at 0 (omega arith), le-ltb (length a.s.now) (a.at + a.n) (omega arith)) (sym (is_found (a.at + a.n) _ (omega arith)))
