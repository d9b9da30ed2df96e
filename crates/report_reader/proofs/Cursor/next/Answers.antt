-- `report_reader::next` meets its contract: what is refused on the way is the step, and else the verdict tells it.
-- Assumes nothing.
use Rattle.std.proofs.Common.{◌∙◌}
use Rattle.std.proofs.lemmas.Result.{err_from_is_err_and}
use Rattle.laws.specs.Choice.{when◌then◌else◌}
use Rattle.report_reader.specs.Reader.{cursor_step}
use Rattle.report_reader.specs.Internal.{held}
use Rattle.report_reader.proofs.Laws.{step-told, step_fits, refused_told}
use Rattle.report_reader.proofs.Cursor.next.Goals as goal

pub returns-in_err-outline : goal.returns-in_err-outline
unfolding cursor_step held when◌then◌else◌
returns-in_err-outline c = let a = c.args in
    let p = err_from_is_err_and c.from_residual.result c.from_residual.ensures.1 in
    let r = c.in_err-outline.field-0.0 in
    rw (p.1, p.2, ← c.is_form.ensures, c.if-not-is_form.false)
    (refused_told a.form a.s.now a.kind a.self.at r _ c.in_err-outline.ensures.told (step-told a.form a.s.now a.kind a.self.at))

pub returns-in_err-v : goal.returns-in_err-v
unfolding cursor_step when◌then◌else◌
returns-in_err-v c = let a = c.args in
    let p = err_from_is_err_and c.from_residual-in_err-v.result c.from_residual-in_err-v.ensures.1 in
    rw (p.1, p.2, ← c.is_form.ensures, c.if-not-is_form.false)
    (refused_told a.form a.s.now a.kind a.self.at c.in_err-v.field-0.0 _ (c.in_err-v.ensures ∙ c.in_ok-outline.ensures.told) (step-told a.form a.s.now a.kind a.self.at))

pub step_of-requires : goal.step_of-requires
step_of-requires c = let a = c.args in step_fits a.form a.s.now a.kind a.self.at (c.in_ok-v.ensures ∙ c.in_ok-outline.ensures.told)

pub returns : goal.returns
unfolding cursor_step when◌then◌else◌
returns c = let a = c.args in
    let verdict = c.in_ok-v.ensures ∙ c.in_ok-outline.ensures.told in
    rw (← c.is_form.ensures, c.if-not-is_form.false) (c.step_of.ensures ∙ rw verdict (step-told a.form a.s.now a.kind a.self.at))
