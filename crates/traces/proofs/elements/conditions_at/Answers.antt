-- `traces::elements::conditions_at` meets its contract: the conditions left give what all of them do.
-- Assumes nothing.
use Rattle.std.proofs.Common.{sym, ◌∙◌, ◌-◌, ◌+◌, arith, rules}
use Rattle.traces.specs.Elements.{with_condition}
use Rattle.traces.proofs.WalkLaws.{conditions_next, conditions_done, conditions_onward, refused, is_found, some_found, none_found}
use Rattle.traces.proofs.elements.conditions_at.Goals as goal

pub returns-in_err-w : goal.returns-in_err-w
returns-in_err-w c = let l = c.loop-i in let a = c.args in
    let last = l.invariant.1 ∙ conditions_next a.s.now a.ty (a.count - l._i) l.w (a.count - (l._i + 1)) (omega arith) in
    rw (last, refused (conditions_onward a.s.now a.ty (a.count - (l._i + 1)) (with_condition a.s.now a.ty l.w)) (none_found _ c.in_err-w.ensures)) (search rules)

pub loop-i-preserved : goal.loop-i-preserved
loop-i-preserved c = let l = c.loop-i in let a = c.args in let r = some_found c.in_ok-w.ensures in
    (rw r.0 r.1, l.invariant.1 ∙ conditions_next a.s.now a.ty (a.count - l._i) l.w (a.count - (l._i + 1)) (omega arith) ∙ rw (← r.0))

pub returns : goal.returns
returns c = let l = c.loop-i in let a = c.args in
    let last = l.invariant.1 ∙ conditions_done a.s.now a.ty (a.count - l._i) l.w (omega arith) in
    rw last (sym (is_found _ _ l.invariant.0))
