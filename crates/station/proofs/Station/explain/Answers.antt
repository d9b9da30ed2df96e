-- `station::Station::explain` meets its contract.
-- Assumes nothing.
use Rattle.station.specs.Views.{view}
use Rattle.station.proofs.Station.explain.Goals as goal

pub returns : goal.returns
unfolding view
returns c = c.explain.ensures
