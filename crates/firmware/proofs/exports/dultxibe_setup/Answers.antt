-- `firmware::exports::dultxibe_setup` meets its contract.
-- Assumes nothing.
use Rattle.std.proofs.Common.{ap}
use Rattle.station.specs.Views.{view_outcome}
use Rattle.firmware.specs.Numbers.{numbered}
use Rattle.firmware.proofs.exports.dultxibe_setup.Goals as goal

pub returns : goal.returns
unfolding view_outcome
returns c = rw c.from.ensures (ap numbered c.setup-after.ensures.outcome)
