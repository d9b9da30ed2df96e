-- `requesters::diagnostic_requests::kept` meets its contract. The invariant: what is kept, with those on time of the places left, is what is on time.
-- Assumes nothing.
use Rattle.std.proofs.Common.{◌+◌, ◌≤◌, ◌≡◌, sym, ◌∙◌, ap, List, [], ◌∷◌, ◌++◌, arith, length, get_or, take, drop, length-set, get_or-take}
use Rattle.units.specs.Time.{elapsed_since}
use Rattle.requests.specs.Elements.{element_capacity}
use Rattle.model.specs.declared.Diagnostic.{Diagnostic}
use Rattle.model.specs.Diagnostics.{on_time}
use Rattle.laws.proofs.Arrays.{take_within, length-within}
use Rattle.requesters.proofs.DiagnosticLaws.{on_time_next, on_time-kept, on_time-late, on_time_end, past_diagnostics}
use Rattle.requesters.proofs.diagnostic_requests.kept.Goals as goal
use Rattle.requesters.proofs.diagnostic_requests.kept.Goals.{then-not-is_late, else-not-is_late}

pub loop-i-preserved : goal.loop-i-preserved
loop-i-preserved c = let l = c.loop-i in
    let d = c.args.d in
    let t = c.args.now.0 in
    let n = c.min-end.result in
    let size = length-within d.elements 8 n l.invariant.3 d.count c.min-end.ensures in
    let x = get_or d.elements l.i past_diagnostics in
    let front = take c.if-not-is_late.count c.if-not-is_late.elements in
    let few : (c.if-not-is_late.count ≤ l.i + 1) × (c.if-not-is_late.count ≤ element_capacity) × (length c.if-not-is_late.elements ≡ element_capacity) × (front ≡ take l.count l.elements ++ on_time elapsed_since t d.accepted.0 (x ∷ [])) =
    elim c.if-not-is_late.branch [
      | then-not-is_late w ↦
          let late = sym c.is_late.ensures ∙ w.if-not-is_late.true in
          (omega (arith, w.count-is), omega (arith, w.count-is), ap length w.elements-is ∙ length-set l.elements l.count x ∙ l.invariant.4, rw (w.elements-is, w.count-is) (on_time-kept elapsed_since t d.accepted.0 x l.elements l.count (omega arith) late))
      | else-not-is_late w ↦
          let late = sym c.is_late.ensures ∙ w.if-not-is_late.false in
          (omega (arith, w.count-is), omega (arith, w.count-is), ap length w.elements-is ∙ l.invariant.4, rw (w.elements-is, w.count-is) (on_time-late elapsed_since t d.accepted.0 x _ late))
    ] in
    (few.0, few.1, l.invariant.2, l.invariant.3, few.2, on_time_next elapsed_since t d.accepted.0 (take n d.elements) l.i past_diagnostics x (take l.count l.elements) front _ (omega arith) (get_or-take n d.elements l.i past_diagnostics c.loop-i-test.true) l.invariant.5 few.3)

pub returns : goal.returns
returns c = let l = c.loop-i in
    let a = c.args in
    let d = a.d in
    let n = c.min-end.result in
    let size = length-within d.elements 8 n l.invariant.3 d.count c.min-end.ensures in
    on_time_end elapsed_since a.now.0 d.accepted.0 (take n d.elements) l.i (take l.count l.elements) _ (omega arith) l.invariant.5 ∙ ap (λ (x : List Diagnostic). on_time elapsed_since a.now.0 d.accepted.0 (drop d.first x)) (take_within d.elements 8 n l.invariant.3 d.count c.min-end.ensures)
