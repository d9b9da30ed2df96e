-- Elapsed time is true time since the first call, and fewer calls than a turn has milliseconds keep it short of its elapsed_top.
-- Assumes nothing.
use Rattle.std.proofs.Common.{ℕ, ◌+◌, ◌-◌, ◌*◌, ◌%◌, ◌≤◌, ◌<◌, min, ◌≡◌, refl, ◌∙◌, ap, List, [], ◌∷◌, map, arith, length}
use Rattle.std.proofs.Math.Option.{Option, none, some}
use Rattle.units.specs.Time.{turn, age, elapsed_top}
use Rattle.model.specs.Clocks.{Timer, unset, advanced, elapsed_clock, elapsed_at}
use Rattle.model.specs.Model.{Capacities, Listed, Station, Call}
use Rattle.model.specs.Stations.{setup, timed, reading_of, step}
use Rattle.model.specs.Runs.{run, Always}
use Rattle.model.specs.Premise.{LessThanTurnApart, latest, ElapsedIsTrue}
use Rattle.model.specs.Independence.{BelowTop}
use Rattle.model.proofs.CallLaws.{step-timer, setup-unset}

-- the timer after calls with these readings
after : Timer → List ℕ → Timer
after t [] = t
after t (r ∷ rs) = after (advanced elapsed_clock t r) rs

run-timer : (most : Capacities) (g : Station) (cs : List Call) → (run elapsed_clock most g cs).timer ≡ after g.timer (map reading_of cs)
unfolding run after
run-timer most g [] = refl
run-timer most g (c ∷ cs) = run-timer most (step elapsed_clock most g c).station cs ∙ ap (λ (t : Timer). after t (map reading_of cs)) (step-timer elapsed_clock most g c)

module _ (rs : List ℕ) (r : ℕ) where
  -- by its time
  late : ℕ → ℕ
  late n = (after (record { last = some r; now = n }) rs).now

-- capping once more changes nothing
capped : (x y : ℕ) → min elapsed_top (min elapsed_top x + y) ≡ min elapsed_top (x + y)
capped x y = omega arith

true_next : (a t u : ℕ) → a ≤ t → t ≤ u → u < t + turn → elapsed_at (some (t % turn)) (min elapsed_top (t - a)) (u % turn) ≡ min elapsed_top (u - a)
unfolding elapsed_at
true_next a t u h k l =
    let e : age (u % turn) (t % turn) ≡ u - t = omega arith in
    let s : t - a + (u - t) ≡ u - a = omega (h, k, arith) in
    rw (e, capped, s)

after_true : (a t : ℕ) (us : List ℕ) → a ≤ t → LessThanTurnApart t us → late (map (λ u. u % turn) us) (t % turn) (min elapsed_top (t - a)) ≡ min elapsed_top (latest t us - a)
unfolding late after LessThanTurnApart latest
after_true a t [] h n = refl
after_true a t (u ∷ us) h n =
    ap (late (map (λ u. u % turn) us) (u % turn)) (true_next a t u h n.0 n.1) ∙ after_true a u us (omega (arith, n.0)) n.2

first_true : (t : ℕ) (us : List ℕ) → LessThanTurnApart t us → (after unset (map (λ u. u % turn) (t ∷ us))).now ≡ min elapsed_top (latest t us - t)
unfolding late after elapsed_at
first_true t us n =
    let z : 0 ≡ min elapsed_top (t - t) = omega arith in
    ap (late (map (λ u. u % turn) us) (t % turn)) z ∙ after_true t t us (omega arith) n

pub elapsed_is_true : ElapsedIsTrue
elapsed_is_true most i l cs t ts n e =
    ap (λ (u : Timer). u.now) (run-timer most (setup most i l).station cs) ∙ rw (setup-unset most i l, e) (first_true t ts n)

-- ---- short of the top

advance_little : (o : Option ℕ) (n r : ℕ) → elapsed_at o n r < n + turn
unfolding elapsed_at
advance_little none n r = omega arith
advance_little (some l) n r = omega arith

below-from : (most : Capacities) (g : Station) (cs : List Call) → g.timer.now + length cs * 4294967295 < elapsed_top → Always BelowTop elapsed_clock most g cs
unfolding Always timed
below-from most g [] h = tt
below-from most g (c ∷ cs) h =
    let a = advance_little g.timer.last g.timer.now (reading_of c) in
    (omega arith, below-from most (step elapsed_clock most g c).station cs (rw (step-timer elapsed_clock most g c) (omega arith)))

-- no list of fewer calls than a turn has milliseconds comes to the top
pub below_top : (most : Capacities) (i : List ℕ) (l : List Listed) (cs : List Call) → length cs < turn → Always BelowTop elapsed_clock most (setup most i l).station cs
below_top most i l cs h = below-from most (setup most i l).station cs (rw (setup-unset most i l) (omega arith))
