-- `report_calls::report_frames::give_diagnostics` meets its contract.
-- Assumes nothing.
use Rattle.std.proofs.lemmas.Bool.{not-true, not-false}
use Rattle.report_calls.proofs.ServeLaws.{no_diagnostics, gives-diagnostics}
use Rattle.report_calls.proofs.report_frames.give_diagnostics.Goals as goal

pub returns-then-not-diagnostics : goal.returns-then-not-diagnostics
returns-then-not-diagnostics c = rw c.served.ensures (no_diagnostics c.args.r c.args.identity.now c.args.buf.now (not-true _ c.if-not-diagnostics.true))

pub returns : goal.returns
returns c = rw (c.served-2.ensures, c.after_diagnostics-requester.ensures) (gives-diagnostics c.args.r c.args.identity.now c.args.buf.now _ c.frame_diagnostics-f.result (not-false _ c.if-not-diagnostics.false) c.frame_diagnostics-f.ensures)
