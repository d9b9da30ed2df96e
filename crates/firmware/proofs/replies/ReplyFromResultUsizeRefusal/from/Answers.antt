-- `Reply::from` of a writer's answer meets its contract.
-- Assumes nothing.
use Rattle.std.proofs.Common.{ne_eqb}
use Rattle.laws.specs.Choice.{when◌then◌else◌}
use Rattle.octets.proofs.RefusalLaws.{some_number}
use Rattle.requesters.specs.Views.{view_answer}
use Rattle.firmware.specs.Numbers.{reply_to, reply_written}
use Rattle.firmware.proofs.replies.ReplyFromResultUsizeRefusal.from.Goals as goal

pub returns-in-Ok : goal.returns-in-Ok
unfolding reply_written reply_to view_answer when◌then◌else◌
returns-in-Ok c = rw c.in-Ok.is c.from.ensures

pub returns-in-Err : goal.returns-in-Err
unfolding reply_written reply_to view_answer when◌then◌else◌
returns-in-Err c = rw (c.in-Err.is, ne_eqb _ _ (some_number c.in-Err.refusal.cause)) c.from-in-Err.ensures
