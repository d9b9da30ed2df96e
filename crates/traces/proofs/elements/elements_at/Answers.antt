-- `traces::elements::elements_at` meets its contract: the elements left give what all of them do.
-- Assumes nothing.
use Rattle.std.proofs.Common.{sym, ◌∙◌, ◌-◌, ◌+◌, arith, rules}
use Rattle.traces.specs.Elements.{with_traced, traced_element_at}
use Rattle.traces.proofs.WalkLaws.{elements_next, elements-done, elements_onward, elements-none, refused, is_found, some_found, none_found}
use Rattle.traces.proofs.elements.elements_at.Goals as goal

pub returns-then-from-eq0 : goal.returns-then-from-eq0
returns-then-from-eq0 c = rw (elements-none c.args.s.now c.args.kind c.args.count c.args.from c.if-from-eq0.true)

pub returns-in_err-element_at : goal.returns-in_err-element_at
unfolding with_traced
returns-in_err-element_at c = let l = c.loop-i in let a = c.args in
    let last = l.invariant.1 ∙ elements_next a.s.now a.kind (a.count - l.i) l.i l.w (a.count - (l.i + 1)) (omega arith) in
    rw (last, refused (elements_onward a.s.now a.kind (a.count - (l.i + 1)) (l.i + 1) (with_traced l.w l.i (traced_element_at a.s.now a.kind l.w.end))) (none_found _ c.in_err-element_at.ensures)) (search rules)

pub loop-i-preserved : goal.loop-i-preserved
unfolding with_traced
loop-i-preserved c = let l = c.loop-i in let a = c.args in let r = some_found c.in_ok-element_at.ensures in
    (rw (c.with_element-w.ensures, r.0) r.1, l.invariant.1 ∙ elements_next a.s.now a.kind (a.count - l.i) l.i l.w (a.count - (l.i + 1)) (omega arith) ∙ rw (← r.0, ← c.with_element-w.ensures))

pub returns : goal.returns
returns c = let l = c.loop-i in let a = c.args in
    let last = l.invariant.1 ∙ elements-done a.s.now a.kind (a.count - l.i) l.i l.w (omega arith) in
    rw last (sym (is_found _ _ l.invariant.0))
