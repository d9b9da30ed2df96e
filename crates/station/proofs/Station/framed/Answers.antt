-- `station::Station::framed` meets its contract.
-- Assumes nothing.
use Rattle.std.proofs.Common.{sym, ap, ◌∙◌, []}
use Rattle.model.specs.Stations.{frame_call, act, reading_of, step}
use Rattle.station.specs.declared.Station.{Station}
use Rattle.station.specs.Views.{view_outcome, changed_outcome}
use Rattle.station.proofs.Station.framed.Goals as goal

pub returns : goal.returns
unfolding step act reading_of frame_call
returns c = sym (ap (λ (g : Station). view_outcome (changed_outcome g c.take_request.result) []) c.ticked-g.ensures.whole)
    ∙ c.take_request.ensures
    ∙ rw (c.ticked-g.ensures.viewed, c.read_request.ensures)
