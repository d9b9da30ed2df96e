-- Two stations in step, each by its own clock: the times of the one are those of the other, mapped.
-- Assumes nothing.
use Rattle.std.proofs.Common.{ℕ, ◌≡◌, ◌∙◌, ap, List}
use Rattle.std.proofs.Math.Option.{Option, some}
use Rattle.model.specs.Clocks.{Timer, unset, Clock}
use Rattle.model.specs.Model.{Capacities, Listed, Station, Call}
use Rattle.model.specs.Stations.{timed, without_late, act, reading_of, step}
use Rattle.model.specs.Runs.{reply}
use Rattle.model.specs.Ages.{EachAge}
use Rattle.model.proofs.AgesLaws.{dropped-call}
use Rattle.model.proofs.CallLaws.{step-timer, blank}
use Rattle.model.proofs.Retimed.{timer_by, retimed, result_by, new-same, Agree, dropped_by, act_by}

-- how the times of clock k are those of clock k', mapped: Index says which maps there are
pub record Pairing (k k' : Clock) : Type 1 where
  pub Index : Type 0
  pub mapped : Index → ℕ → ℕ
  -- what must hold of a reading, of the time that k makes of it, and of that of k'
  pub Good : ℕ → ℕ → ℕ → Type 0
  -- what holds of the latest reading and its time of k'
  pub Linked : Index → ℕ → ℕ → Type 0
  pub first : (t : Timer) (r : ℕ) → Good r (k.time t r) (k'.time unset r) → (i : Index) × (k.time t r ≡ mapped i (k'.time unset r)) × Linked i r (k'.time unset r)
  pub next : (i : Index) (t : Timer) (last r : ℕ) → t.last ≡ some last → Linked i last t.now → Good r (k.time (timer_by (mapped i) t) r) (k'.time t r)
      → (k.time (timer_by (mapped i) t) r ≡ mapped i (k'.time t r)) × Linked i r (k'.time t r)

module _ {k k' : Clock} (p : Pairing k k') where
  -- at every next reading g and h come into step
  pub Paired : Station → Station → Type 0
  Paired g h =
      (r : ℕ) → p.Good r (k.time g.timer r) (k'.time h.timer r)
      → (i : p.Index) × (timed k r g ≡ retimed (p.mapped i) (timed k' r h)) × p.Linked i r (k'.time h.timer r)

  pub paired_first : (t : Timer) (i : Option (List ℕ)) (l : List Listed) → Paired (blank t i l) (blank unset i l)
  unfolding Paired timed retimed
  paired_first t i l r good =
      let n = p.first t r good in
      (n.0, rw (n.1, new-same (p.mapped n.0) l), n.2)

  paired_next : (i : p.Index) (h : Station) (last : ℕ) → h.timer.last ≡ some last → p.Linked i last h.timer.now → Paired (retimed (p.mapped i) h) h
  unfolding Paired timed retimed
  paired_next i h last e linked r good =
      let n = p.next i h.timer last r e linked good in
      (i, rw n.0, n.1)

  module _ (most : Capacities) (g h : Station) (c : Call) (paired : Paired g h) (good : p.Good (reading_of c) (k.time g.timer (reading_of c)) (k'.time h.timer (reading_of c)))
      (ages : (i : p.Index) → EachAge (Agree (p.mapped i) k.since k'.since) (timed k' (reading_of c) h) c) where
    step_by : (i : p.Index) × (step k most g c ≡ result_by (p.mapped i) (step k' most h c)) × p.Linked i (reading_of c) (k'.time h.timer (reading_of c))
    unfolding Paired step without_late
    step_by =
        let n = paired (reading_of c) good in
        let f = p.mapped n.0 in
        let now = timed k' (reading_of c) h in (
          n.0,
          ap (λ (y : Station). act k.since most c (without_late k.since y)) n.1
              ∙ ap (act k.since most c) (dropped_by f k.since k'.since now (ages n.0).0)
              ∙ act_by f k.since k'.since most c (without_late k'.since now) (dropped-call _ k'.since now c (ages n.0).1),
          n.2,
        )

    pub paired_step : Paired (step k most g c).station (step k' most h c).station
    paired_step =
        let n = step_by in
        let t = step-timer k' most h c in
        rw n.1 (paired_next n.0 (step k' most h c).station (reading_of c) (ap (λ (y : Timer). y.last) t) (rw t n.2))

    pub paired_reply : reply k most g c ≡ reply k' most h c
    unfolding reply
    paired_reply = rw step_by.1
