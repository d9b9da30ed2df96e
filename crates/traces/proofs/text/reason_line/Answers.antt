-- `traces::text::reason_line` meets its contract.
-- Assumes nothing.
use Rattle.std.proofs.Common.{arith}
use Rattle.texts.proofs.PutLaws.{one}
use Rattle.traces.proofs.LineLaws.{whole_line}
use Rattle.traces.specs.Lines.{explanation_line}
use Rattle.traces.proofs.text.reason_line.Goals as goal

pub returns-in-LoggedAfter : goal.returns-in-LoggedAfter
unfolding explanation_line
returns-in-LoggedAfter c = rw c.in-LoggedAfter.is (whole_line c.new-line.ensures (one c.put.ensures) (omega arith))

pub returns-in-WrongType : goal.returns-in-WrongType
unfolding explanation_line
returns-in-WrongType c = rw c.in-WrongType.is (whole_line c.new-line.ensures (one c.put-in-WrongType.ensures) (omega arith))

pub returns-in-Unmet : goal.returns-in-Unmet
unfolding explanation_line
returns-in-Unmet c = rw c.in-Unmet.is (whole_line c.new-line.ensures c.put_line.ensures (omega arith))

pub returns-in-LimitReached : goal.returns-in-LimitReached
unfolding explanation_line
returns-in-LimitReached c = rw c.in-LimitReached.is (whole_line c.new-line.ensures (one c.put-in-LimitReached.ensures) (omega arith))

pub returns-in-Reported : goal.returns-in-Reported
unfolding explanation_line
returns-in-Reported c = rw c.in-Reported.is (whole_line c.new-line.ensures (one c.put-in-Reported.ensures) (omega arith))
