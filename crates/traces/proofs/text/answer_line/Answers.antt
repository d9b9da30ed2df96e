-- `traces::text::answer_line` meets its contract.
-- Assumes nothing.
use Rattle.std.proofs.Common.{arith}
use Rattle.texts.proofs.PutLaws.{one, short}
use Rattle.traces.proofs.LineLaws.{whole_line}
use Rattle.traces.specs.Lines.{answer_line}
use Rattle.traces.proofs.text.answer_line.Goals as goal

pub returns-in-Accepted : goal.returns-in-Accepted
unfolding answer_line
returns-in-Accepted c = rw c.in-Accepted.is (whole_line c.new-line.ensures (one c.put.ensures) (omega arith))

pub returns-in-Nothing : goal.returns-in-Nothing
unfolding answer_line
returns-in-Nothing c = rw c.in-Nothing.is (whole_line c.new-line.ensures (one c.put-in-Nothing.ensures) (omega arith))

pub returns-in-Length : goal.returns-in-Length
unfolding answer_line
returns-in-Length c = rw c.in-Length.is (whole_line c.new-line.ensures c.put_line.ensures (omega arith))

pub returns-in-Refused : goal.returns-in-Refused
unfolding answer_line
returns-in-Refused c = rw c.in-Refused.is (whole_line c.new-line.ensures (short c.refusal.ensures) (omega arith))
