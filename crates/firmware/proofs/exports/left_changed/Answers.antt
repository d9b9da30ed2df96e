-- `firmware::exports::left_changed` meets its contract.
-- Assumes nothing.
use Rattle.station.specs.Views.{view_outcome}
use Rattle.firmware.proofs.exports.left_changed.Goals as goal

pub returns : goal.returns
unfolding view_outcome
returns c = λ buffer. rw c.from.ensures
