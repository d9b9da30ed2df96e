-- `report_calls::diagnostic_reports::fill_diagnostics` meets its contract. The invariant, `Filling`: what is written, and what filling the rest gives,
-- are what filling the whole gives.
-- Assumes nothing.
use Rattle.std.proofs.Common.{arith}
use Rattle.report_calls.proofs.FillLaws.{filling_done, filling_full, filling_within, filling_next}
use Rattle.report_calls.proofs.EventLaws.{left_none}
use Rattle.requesters.proofs.DiagnosticLaws.{past_diagnostics}
use Rattle.report_calls.proofs.ReportLaws.{next_report, no_report, report-octets}
use Rattle.report_calls.proofs.diagnostic_reports.fill_diagnostics.Goals as goal

pub returns-in_default : goal.returns-in_default
returns-in_default c = filling_full c.loop-i.invariant.1 _ (next_report _ c.args.d.elements c.loop-i.i c.args.d.count (omega (arith, c.min-end.ensures, c.loop-i.invariant.0))) (report-octets _ _ _) c.in_default.ensures

pub overflow_add-at : goal.overflow_add-at
overflow_add-at c = omega (arith, filling_within c.loop-i.invariant.1 _ (next_report _ c.args.d.elements c.loop-i.i c.args.d.count (omega (arith, c.min-end.ensures, c.loop-i.invariant.0))) (report-octets _ _ _) c.in-Some.ensures)

pub loop-i-preserved : goal.loop-i-preserved
loop-i-preserved c = (c.loop-i.invariant.0, filling_next c.loop-i.invariant.1 _ (next_report _ c.args.d.elements c.loop-i.i c.args.d.count (omega (arith, c.min-end.ensures, c.loop-i.invariant.0))) (report-octets _ _ _) c.in-Some.ensures)

pub returns : goal.returns
returns c = let d = c.args.d in
    let l = c.loop-i in
    let over = filling_done l.invariant.1 (no_report _ d.elements l.i d.count (omega (arith, c.min-end.ensures, l.invariant.0))) in
    rw (left_none d.elements d.count d.count past_diagnostics (omega arith)) (rw (left_none d.elements l.i d.count past_diagnostics (omega (arith, c.min-end.ensures, l.invariant.0))) at over)
