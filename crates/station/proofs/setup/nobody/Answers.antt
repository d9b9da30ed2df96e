-- `station::setup::nobody` meets its contract.
-- Assumes nothing.
use Rattle.laws.specs.Choice.{when◌then◌else◌}
use Rattle.events.specs.Log.{logged}
use Rattle.requesters.specs.Views.{view_identity}
use Rattle.station.specs.Views.{view_timer, view}
use Rattle.station.proofs.setup.nobody.Goals as goal

pub returns : goal.returns
unfolding view view_timer view_identity logged when◌then◌else◌
returns c = rw (c.unset.ensures, c.blank_log.ensures)
