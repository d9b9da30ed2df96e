-- `station::Station::tick` meets its contract.
-- Assumes nothing.
use Rattle.std.proofs.Common.{ap, ◌∙◌, []}
use Rattle.model.specs.Model.{Station, accepted}
use Rattle.model.specs.Stations.{result, act, reading_of, step}
use Rattle.station.proofs.StationLaws.{accepted-view}
use Rattle.station.proofs.Station.tick.Goals as goal

pub returns : goal.returns
unfolding step act reading_of
returns c = accepted-view _ _ c.accepted_with.ensures ∙ ap (λ (g : Station). result g accepted []) c.ticked.ensures.viewed
