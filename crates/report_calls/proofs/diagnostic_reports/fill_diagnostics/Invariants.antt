-- `report_calls::diagnostic_reports::fill_diagnostics` meets its contract. The invariant, `Filling`: what is written, and what filling the rest gives,
-- are what filling the whole gives.
-- Assumes nothing.
use Rattle.std.proofs.Common.{◌≡◌, length, take}
use Rattle.requests.specs.Elements.{element_capacity}
use Rattle.model.specs.Diagnostics.{next_diagnostic}
use Rattle.requesters.specs.Views.{left}
use Rattle.report_calls.proofs.FillLaws.{Filling}
use Rattle.report_calls.proofs.diagnostic_reports.fill_diagnostics.Given as goal

abbrev pub invariant-loop-i : goal.invariant-loop-i
invariant-loop-i l = (length l.d.elements ≡ element_capacity) × Filling (next_diagnostic (take 252 l.identity)) (left l.initial.i l.d.count l.d.elements) l.initial.buf l.buf l.at (left l.i l.d.count l.d.elements)
