-- Laws of a replay: the station that a call leaves, and the loop over a trace's records.
-- Assumes nothing.
use Rattle.std.proofs.Common.{ℕ, ◌-◌, ◌<◌, ◌≡◌, ap, ◌∙◌, List, [], arith, length, lt-ltb, le-ltb}
use Rattle.laws.proofs.Walk.{Rest, start, done, again}
use Rattle.model.specs.Model.{Station, Result, standard}
use Rattle.model.specs.Stations.{setup}
use Rattle.station.specs.declared.Station.{Station as CodeStation}
use Rattle.station.specs.declared.Outcome.{Outcome}
use Rattle.station.specs.Views.{view, view_outcome}
use Rattle.traces.specs.Records.{record_end, whole_record}
use Rattle.traces.proofs.WalkLaws.{record_onward}
use Rattle.replays.specs.Replay.{Replay, replayed, station_after, replay_step, replay_trace}

-- the station that an outcome leaves is the one that the model's call leaves
pub leaves : (r : CodeStation) (o : Outcome) (b : List ℕ) (x : Result) → r ≡ o.station → view_outcome o b ≡ x → view r ≡ x.station
unfolding view_outcome
leaves r o b x is e = ap view is ∙ ap (λ (y : Result). y.station) e

-- ---- the loop: what is left of the trace gives what the whole gives

abbrev pub Replaying : List ℕ → ℕ → Station → Type 0
Replaying s at g = Rest (λ (w : Replay). whole_record s w.at) (replay_step s) (replay_trace s) (length s - at) (replayed at g)

module _ (s : List ℕ) where
  pub replay_start : Replaying s 0 (setup standard [] []).station
  unfolding replay_trace
  replay_start = start (λ (w : Replay). whole_record s w.at) (replay_step s) (length s) (length s - 0) (replayed 0 (setup standard [] []).station) (omega arith)

  module _ {at : ℕ} {g : Station} (r : Replaying s at g) where
    -- a record that is refused, or the input's end
    pub replay_stop : record_end s at ≡ 0 → replayed at g ≡ replay_trace s
    replay_stop none = done r (rw none (le-ltb at 0 (omega arith)))

    pub replay_next : (end : ℕ) (n : Station) → (end ≡ record_end s at) × (0 < record_end s at) → n ≡ station_after s at g → Replaying s end n
    unfolding replay_step
    replay_next end n is after =
        let on = record_onward s at is.1 in
        let h : at < end = omega (arith, on.1, is.0) in
        again (length s - end) r (rw (← is.0) (lt-ltb at end h)) (omega (arith, on.0)) (rw (← is.0, ← after))
