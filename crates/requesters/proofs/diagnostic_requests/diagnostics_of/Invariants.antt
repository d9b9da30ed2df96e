-- `requesters::diagnostic_requests::diagnostics_of` meets its contract. The invariant is `FillingBack`.
-- Assumes nothing.
use Rattle.model.specs.Diagnostics.{diagnostic_of}
use Rattle.laws.proofs.Arrays.{FillingBack}
use Rattle.requests.specs.Elements.{element_capacity}
use Rattle.requesters.proofs.diagnostic_requests.diagnostics_of.Given as goal

abbrev pub invariant-loop-i : goal.invariant-loop-i
invariant-loop-i l = FillingBack diagnostic_of l.asked l.elements element_capacity l.end l.i
