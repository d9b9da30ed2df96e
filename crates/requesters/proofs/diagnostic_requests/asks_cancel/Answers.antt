-- `requesters::diagnostic_requests::asks_cancel` meets its contract.
-- Assumes nothing.
use Rattle.std.proofs.Common.{◌≡◌, ◌∙◌, ap, List, map, length, take, rules, tests}
use Rattle.std.proofs.lemmas.Iterator.{YieldsList-from_slice}
use Rattle.laws.proofs.Tests.{any_from_items}
use Rattle.laws.proofs.Arrays.{length_mapped, take_within}
use Rattle.requests.specs.declared.Element.{Element}
use Rattle.requests.specs.Elements.{element_capacity}
use Rattle.model.specs.Diagnostics.{diagnostic_treatment, is_cancel, holds_cancel, diagnostic_of, diagnostics_of}
use Rattle.requesters.proofs.DiagnosticLaws.{cancels_listed}
use Rattle.requesters.proofs.diagnostic_requests.asks_cancel.Goals as goal

pub returns : goal.returns
unfolding diagnostics_of
returns c = let q = c.args.q in
    let eight : length q.elements ≡ element_capacity = search (rules, length_mapped) in
    any_from_items (λ x. is_cancel (diagnostic_treatment x.ty)) _ _ _ c.any.ensures.ran (YieldsList-from_slice (take c.min-end.result q.elements) cc) (λ x b f k. search (rules, tests))
    ∙ cancels_listed (take c.min-end.result q.elements)
    ∙ ap (λ (es : List Element). holds_cancel (map diagnostic_of es)) (take_within q.elements 8 c.min-end.result eight q.count c.min-end.ensures)
