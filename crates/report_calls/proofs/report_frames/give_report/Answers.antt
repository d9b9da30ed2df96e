-- `requesters::give_report` meets its contract: refused, or by the kind of the report.
-- Assumes nothing.
use Rattle.std.proofs.Common.{lt-ltb, le-ltb}
use Rattle.laws.specs.Choice.{when◌then◌else◌}
use Rattle.model.specs.Stations.{give_kind, give_report}
use Rattle.requesters.specs.Views.{view_answer}
use Rattle.report_calls.proofs.report_frames.give_report.Goals as goal

pub returns-then-buf-lt-REPORT_BUFFER : goal.returns-then-buf-lt-REPORT_BUFFER
unfolding give_report view_answer when◌then◌else◌
returns-then-buf-lt-REPORT_BUFFER c = rw (lt-ltb _ _ c.if-buf-lt-REPORT_BUFFER.true, c.served.ensures, c.at.ensures)

pub returns-in-Event : goal.returns-in-Event
unfolding give_report give_kind when◌then◌else◌
returns-in-Event c = rw (le-ltb _ _ c.if-buf-lt-REPORT_BUFFER.false, c.in-Event.is) c.give_events.ensures

pub returns-in-Diagnostic : goal.returns-in-Diagnostic
unfolding give_report give_kind when◌then◌else◌
returns-in-Diagnostic c = rw (le-ltb _ _ c.if-buf-lt-REPORT_BUFFER.false, c.in-Diagnostic.is) c.give_diagnostics.ensures
