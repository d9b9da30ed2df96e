-- `station::outcomes::left_alone` meets its contract.
-- Assumes nothing.
use Rattle.requesters.specs.Views.{view_answer}
use Rattle.station.proofs.outcomes.left_alone.Goals as goal

pub returns : goal.returns
unfolding view_answer
returns c = λ buffer. rw c.at.ensures
