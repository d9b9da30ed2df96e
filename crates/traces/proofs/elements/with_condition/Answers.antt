-- `traces::elements::with_condition` meets its contract: each return rewrites with the tests that led there.
-- Assumes nothing.
use Rattle.std.proofs.Common.{arith, rules, sym, eq-eqb, ne_eqb, lt-ltb, le-ltb}
use Rattle.laws.specs.Choice.{when◌then◌else◌}
use Rattle.traces.specs.Elements.{condition_end, traced_condition, with_condition}
use Rattle.traces.proofs.WalkLaws.{condition-none, is_found, some_found, none_found}
use Rattle.traces.proofs.elements.with_condition.Goals as goal

pub returns-in_err-behind : goal.returns-in_err-behind
unfolding with_condition
returns-in_err-behind c = let w = c.args.w in
    rw (condition-none c.args.s.now c.args.ty w.end w.least (none_found _ c.in_err-behind.ensures.place)) (search rules)

pub returns-then-id-w : goal.returns-then-id-w
unfolding with_condition condition_end when◌then◌else◌
returns-then-id-w c = rw (← c.size-id.ensures.0, lt-ltb _ _ c.if-id-w.true)

pub returns-in_err-n : goal.returns-in_err-n
unfolding with_condition condition_end when◌then◌else◌
returns-in_err-n c = rw (← c.size-id.ensures.0, le-ltb _ _ c.if-id-w.false, none_found _ c.in_err-n.ensures.length) (search rules)

pub returns-then-size-n : goal.returns-then-size-n
unfolding with_condition condition_end when◌then◌else◌
returns-then-size-n c = let n = some_found c.in_ok-n.ensures.length in
    rw (← c.size-id.ensures.0, le-ltb _ _ c.if-id-w.false, ← n.0, ne_eqb c.in_ok-n.n 0 (omega (arith, n.0, n.1)), ← c.size.ensures.0, ne_eqb _ _ c.if-size-n.true)

pub returns-in_err-end : goal.returns-in_err-end
unfolding with_condition condition_end when◌then◌else◌
returns-in_err-end c = let n = some_found c.in_ok-n.ensures.length in
    rw (← c.size-id.ensures.0, le-ltb _ _ c.if-id-w.false, ← n.0, ne_eqb c.in_ok-n.n 0 (omega (arith, n.0, n.1)), ← c.size.ensures.0, eq-eqb _ _ c.if-size-n.false, none_found _ c.in_err-end.ensures.place) (search rules)

pub returns : goal.returns
unfolding with_condition condition_end traced_condition when◌then◌else◌
returns c = let n = some_found c.in_ok-n.ensures.length in
    let end = some_found c.in_ok-end.ensures.place in
    rw (← c.size-id.ensures.0, le-ltb _ _ c.if-id-w.false, ← n.0, ne_eqb c.in_ok-n.n 0 (omega (arith, n.0, n.1)), ← c.size.ensures.0, eq-eqb _ _ c.if-size-n.false, ← end.0, ← c.body.ensures) (sym (is_found _ _ (rw (← end.0) at end.1)))
