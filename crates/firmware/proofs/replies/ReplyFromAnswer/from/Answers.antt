-- `Reply::from` of an answer meets its contract.
-- Assumes nothing.
use Rattle.requesters.specs.Views.{view_answer}
use Rattle.firmware.specs.Numbers.{reply_to}
use Rattle.firmware.proofs.replies.ReplyFromAnswer.from.Goals as goal

pub returns-in-Accepted : goal.returns-in-Accepted
unfolding reply_to view_answer
returns-in-Accepted c = rw c.in-Accepted.is

pub returns-in-Nothing : goal.returns-in-Nothing
unfolding reply_to view_answer
returns-in-Nothing c = rw c.in-Nothing.is

pub returns-in-Length : goal.returns-in-Length
unfolding reply_to view_answer
returns-in-Length c = rw c.in-Length.is

pub returns-in-Refused : goal.returns-in-Refused
unfolding reply_to view_answer
returns-in-Refused c = rw (c.in-Refused.is, c.number.ensures)
