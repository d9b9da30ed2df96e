-- `station::outcomes::answer_of` meets its contract.
-- Assumes nothing.
use Rattle.std.proofs.Common.{ne_eqb}
use Rattle.laws.specs.Choice.{when◌then◌else◌}
use Rattle.octets.proofs.RefusalLaws.{some_number}
use Rattle.requesters.specs.Views.{view_answer}
use Rattle.station.specs.Internal.{answer_to}
use Rattle.station.proofs.outcomes.answer_of.Goals as goal

pub returns-in-Ok : goal.returns-in-Ok
unfolding answer_to view_answer when◌then◌else◌
returns-in-Ok c = rw c.in-Ok.is

pub returns-in-Err : goal.returns-in-Err
unfolding answer_to view_answer when◌then◌else◌
returns-in-Err c = rw (c.in-Err.is, ne_eqb _ _ (some_number c.in-Err.cause), c.at.ensures)
