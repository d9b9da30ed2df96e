-- `station::Station::reported` meets its contract: the requester is found before the late drop, which moves nobody.
-- Assumes nothing.
use Rattle.std.proofs.Common.{◌≡◌, refl, sym, ap, ◌∙◌, List, map, ltb, length, take, rules}
use Rattle.model.specs.Model.{requester_capacity}
use Rattle.units.specs.Time.{elapsed_since}
use Rattle.laws.proofs.Older.{put_mid}
use Rattle.laws.proofs.Arrays.{length_mapped}
use Rattle.requesters.specs.declared.Requester.{Requester as CodeRequester}
use Rattle.requesters.specs.Views.{view_requester}
use Rattle.model.specs.Stations.{tick_requester, give_report, report_call, act, reading_of, step}
use Rattle.station.specs.Internal.{place, ticked_station}
use Rattle.station.specs.Views.{view, view_outcome}
use Rattle.station.proofs.CallLaws.{call-served}
use Rattle.station.proofs.RequesterLaws.{listed, four_still, changed, place_ticked}
use Rattle.station.proofs.StationLaws.{identity-cut, view_ticked}
use Rattle.station.proofs.Station.reported.Goals as goal

pub returns : goal.returns
unfolding step act reading_of report_call view view_outcome
returns c = let a = c.args in
    let at = c.advanced-timer.ensures in
    let all = a.self.requesters in
    let four : length all ≡ requester_capacity = search (rules, length_mapped, c.well_formed) in
    let n = a.self.count in
    let end = c.min-end.result in
    let new = c.tick_requesters.new.listed in
    let rs = put_mid 0 end all new in
    let as_many : length new ≡ length (take end all) = c.tick_requesters.auto.listed in
    let late = changed all new end n c.min-end.ensures four as_many (map (tick_requester elapsed_since c.advanced-timer.result.now.0)) c.tick_requesters.ensures in
    let drops = rw at at late in
    let g = view (ticked_station a.self a.reading.0 rs) in
    let i = c.find-i.result in
    let searched : i ≡ place a.source (map view_requester (take n all)) = c.find-i.ensures ∙ ap (λ (l : List CodeRequester). place a.source (map view_requester l)) (listed all new end n c.min-end.ensures four) in
    let found : i ≡ place a.source g.requesters = searched ∙ sym (ap (place a.source) drops ∙ place_ticked a.source _ _) in
    let identity = identity-cut a.self.length a.self.identity (search (rules, length_mapped, c.well_formed)) _ c.min.ensures in
    rw (at, c.min-at.ensures)
    (call-served g n rs (four_still all new end n c.min-end.ensures four as_many) refl i a.source (give_report elapsed_since g.identity g.log a.kind a.buf.now) a.buf.now found c.serve_report-s.result _ _ (ap (ltb i) c.min-end.ensures)
    (rw (← c.min-at.ensures, ← identity) c.serve_report-s.ensures))
    ∙ ap (report_call elapsed_since a.source a.kind a.buf.now) (view_ticked a.self a.reading.0 rs drops)
