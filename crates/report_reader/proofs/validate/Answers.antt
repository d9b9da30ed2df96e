-- `report_reader::validate` meets its contract. The invariant, `Validating`: the walk is what is kept of a reading, and what is left of that gives the whole.
-- Assumes nothing.
use Rattle.std.proofs.Common.{refl, ◌∙◌, arith}
use Rattle.std.proofs.lemmas.Result.{err_from_is_err_and}
use Rattle.octets.proofs.RefusalLaws.{some_number}
use Rattle.laws.specs.Choice.{when◌then◌else◌}
use Rattle.report_reader.specs.Internal.{held}
use Rattle.report_reader.proofs.Laws.{validating_start, validating_end, validating_refused, validating_on, validating_next, refused_gathered}
use Rattle.report_reader.proofs.validate.Goals as goal

pub loop-w-init : goal.loop-w-init
loop-w-init c = validating_start _ _ _

pub returns-in_err-outline : goal.returns-in_err-outline
unfolding held when◌then◌else◌
returns-in_err-outline c = let a = c.args in
    let v = c.loop-w.invariant in
    let p = err_from_is_err_and c.from_residual.result c.from_residual.ensures.1 in
    let r = c.in_err-outline.field-0.0 in
    let verdict = c.in_err-outline.ensures.told in
    rw (p.1, p.2) (validating_refused v c.loop-w-test.true (refused_gathered a.form a.s.now a.kind c.loop-w.w.at r _ v.read verdict) (some_number r.cause))

pub validate_held-requires : goal.validate_held-requires
validate_held-requires c = c.in_ok-outline.ensures.stands

pub returns-in_err-v : goal.returns-in_err-v
returns-in_err-v c = let a = c.args in
    let v = c.loop-w.invariant in
    let p = err_from_is_err_and c.from_residual-in_err-v.result c.from_residual-in_err-v.ensures.1 in
    let r = c.in_err-v.field-0.0 in
    let verdict = c.in_err-v.ensures ∙ c.in_ok-outline.ensures.told in
    rw (p.1, p.2) (validating_refused v c.loop-w-test.true (refused_gathered a.form a.s.now a.kind c.loop-w.w.at r _ v.read verdict) (some_number r.cause))

pub loop-w-smaller : goal.loop-w-smaller
loop-w-smaller c = let v = c.loop-w.invariant in
    let verdict = c.in_ok-v.ensures ∙ c.in_ok-outline.ensures.told in
    let on = validating_on v c.loop-w-test.true (c.advance-w.ensures _ _ v.read _ v.is verdict) refl in
    omega (arith, on, c.loop-w-test.true)

pub loop-w-preserved : goal.loop-w-preserved
loop-w-preserved c = let v = c.loop-w.invariant in
    let verdict = c.in_ok-v.ensures ∙ c.in_ok-outline.ensures.told in
    validating_next v c.loop-w-test.true (c.advance-w.ensures _ _ v.read _ v.is verdict) refl

pub returns : goal.returns
returns c = validating_end c.loop-w.invariant c.loop-w-test.false
