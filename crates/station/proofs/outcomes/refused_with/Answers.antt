-- `station::outcomes::refused_with` meets its contract.
-- Assumes nothing.
use Rattle.requesters.specs.Views.{view_answer}
use Rattle.station.specs.Views.{view_outcome}
use Rattle.station.proofs.outcomes.refused_with.Goals as goal

pub returns : goal.returns
unfolding view_outcome view_answer
returns c = λ buffer. rw c.at.ensures
