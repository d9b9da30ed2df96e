-- `traces::elements::element_at` meets its contract: each return rewrites with the tests that led there.
-- Assumes nothing.
use Rattle.laws.specs.Choice.{when◌then◌else◌}
use Rattle.std.proofs.Common.{sym, ap, ne_eqb, ◌<◌, arith, rules}
use Rattle.traces.specs.Elements.{traced_element_at}
use Rattle.traces.proofs.WalkLaws.{is_found, some_found, none_found, passed, refused_by}
use Rattle.traces.proofs.elements.element_at.Goals as goal

pub returns-in_err-from : goal.returns-in_err-from
unfolding traced_element_at when◌then◌else◌
returns-in_err-from c = rw (none_found _ c.in_err-from.ensures.place) (search rules)

pub returns-in_err-limit : goal.returns-in_err-limit
unfolding traced_element_at when◌then◌else◌
returns-in_err-limit c = let from = some_found c.in_ok-from.ensures.place in
    rw (← from.0, ne_eqb c.in_ok-from.from 0 (omega (arith, from.0, from.1)), refused_by _ _ (rw c.pair_at-value.ensures at c.in_err-limit.ensures)) (search rules)

pub returns-in_err-conditions : goal.returns-in_err-conditions
unfolding traced_element_at when◌then◌else◌
returns-in_err-conditions c = let from = some_found c.in_ok-from.ensures.place in let told = passed _ (rw c.pair_at-value.ensures at c.in_ok-limit.ensures) in
    rw (← from.0, ne_eqb c.in_ok-from.from 0 (omega (arith, from.0, from.1)), told.0, ← c.octet-ty.ensures, ← c.condition_table.ensures, ← c.octet.ensures, none_found _ c.in_err-conditions.ensures) (search rules)

pub returns : goal.returns
unfolding traced_element_at when◌then◌else◌
returns c = let from = some_found c.in_ok-from.ensures.place in let all = some_found c.in_ok-conditions.ensures in
    let told = passed _ (rw c.pair_at-value.ensures at c.in_ok-limit.ensures) in
    let end : 0 < c.in_ok-conditions.conditions.end = rw all.0 all.1 in
    rw (← from.0, ne_eqb c.in_ok-from.from 0 (omega (arith, from.0, from.1)), told.0, ← c.octet-ty.ensures, ← c.condition_table.ensures, ← c.octet.ensures, ← all.0, ne_eqb c.in_ok-conditions.conditions.end 0 (omega (arith, end)), ← c.octet-2.ensures, ← ap (λ l. l.0) told.1, ← ap (λ l. l.1) told.1) (sym (is_found _ _ end))
