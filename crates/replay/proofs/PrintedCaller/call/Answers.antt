-- `replay::PrintedCaller::call` meets its contract: what is printed goes by what the record is.
-- Assumes nothing.
use Rattle.laws.specs.Choice.{when◌then◌else◌}
use Rattle.replays.specs.Replay.{station_after}
use Rattle.replay.proofs.PrintedCaller.call.Goals as goal

pub returns-in-Some-Report : goal.returns-in-Some-Report
unfolding station_after when◌then◌else◌
returns-in-Some-Report c = rw (← c.in-Some-Report.ensures, c.in-Some-Report.field-0-is) c.report.ensures

pub returns-in-Some-WriteRequest : goal.returns-in-Some-WriteRequest
unfolding station_after when◌then◌else◌
returns-in-Some-WriteRequest c = rw (← c.in-Some-WriteRequest.ensures, c.in-Some-WriteRequest.field-0-is)

pub returns-in-Some-ReadReport : goal.returns-in-Some-ReadReport
unfolding station_after when◌then◌else◌
returns-in-Some-ReadReport c = rw (← c.in-Some-ReadReport.ensures, c.in-Some-ReadReport.field-0-is)

pub returns-in-Some-Explain : goal.returns-in-Some-Explain
unfolding station_after when◌then◌else◌
returns-in-Some-Explain c = rw (← c.in-Some-Explain.ensures, c.in-Some-Explain.field-0-is)
