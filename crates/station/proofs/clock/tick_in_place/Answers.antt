-- `station::clock::tick_in_place` meets its contract.
-- Assumes nothing.
use Rattle.std.proofs.Common.{◌≡◌, length, map, rules}
use Rattle.laws.proofs.Arrays.{length_mapped}
use Rattle.units.specs.Time.{elapsed_since}
use Rattle.model.specs.Model.{requester_capacity}
use Rattle.model.specs.Stations.{tick_requester}
use Rattle.station.proofs.RequesterLaws.{changed}
use Rattle.station.proofs.StationLaws.{view_ticked}
use Rattle.station.proofs.clock.tick_in_place.Goals as goal

pub returns : goal.returns
returns c = let g = c.args.g.now in
    let at = c.advanced-timer.ensures in
    let four : length g.requesters ≡ requester_capacity = search (rules, length_mapped, c.well_formed) in
    let drops = changed g.requesters _ _ g.count c.min-end.ensures four c.tick_requesters.auto.listed (map (tick_requester elapsed_since c.advanced-timer.result.now.0)) c.tick_requesters.ensures in
    rw at (view_ticked g c.args.reading.0 _ (rw at at drops))
