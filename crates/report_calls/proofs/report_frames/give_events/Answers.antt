-- `report_calls::report_frames::give_events` meets its contract.
-- Assumes nothing.
use Rattle.std.proofs.lemmas.Bool.{not-true, not-false}
use Rattle.events.specs.Log.{logged}
use Rattle.report_calls.proofs.ServeLaws.{no_events, gives-events}
use Rattle.report_calls.proofs.report_frames.give_events.Goals as goal

pub returns-then-not-events : goal.returns-then-not-events
returns-then-not-events c = rw c.served.ensures (no_events c.args.r (logged c.args.log) c.args.buf.now (not-true _ c.if-not-events.true))

pub returns : goal.returns
returns c = rw (c.served-2.ensures, c.after_events-requester.ensures) (gives-events c.args.r (logged c.args.log) c.args.buf.now _ c.frame_events-f.result (not-false _ c.if-not-events.false) c.frame_events-f.ensures)
