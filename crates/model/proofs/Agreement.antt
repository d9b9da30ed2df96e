-- Old and new answers agree while no age has reached a turn: a reading is the first one and the elapsed time, modulo a turn.
-- Assumes nothing.
use Rattle.std.proofs.Common.{ℕ, ◌+◌, ◌-◌, ◌%◌, ◌≤◌, ◌<◌, min, ◌≡◌, refl, ap₂, List, [], ◌∷◌, arith}
use Rattle.std.proofs.Math.Option.{Option, none, some}
use Rattle.units.specs.Time.{turn, age, elapsed_top, elapsed_since}
use Rattle.model.specs.Clocks.{Timer, unset, counter_clock, elapsed_clock, elapsed_at}
use Rattle.model.specs.Model.{Capacities, Listed, Station, Call}
use Rattle.model.specs.Stations.{setup, without_late, timed, reading_of, step}
use Rattle.model.specs.Runs.{Always}
use Rattle.model.specs.Ages.{EachAge}
use Rattle.model.specs.Agreement.{replies, Young, OldAndNewAgree}
use Rattle.model.proofs.AgesLaws.{log-call, both_ages}
use Rattle.model.proofs.Retimed.{Agree}
use Rattle.model.proofs.CallLaws.{step-timer, blank, setup_blank}
use Rattle.model.proofs.Paired.{Pairing, Paired, paired_first, paired_step, paired_reply}
use Rattle.model.proofs.Past.{Before, Rising, rising_pairs, new-past, Past, past-later, drop_past, act-past}

-- ---- readings

first-reading : (r : ℕ) → r < turn → r ≡ (r + elapsed_at none 0 r) % turn
unfolding elapsed_at
first-reading r h = omega arith

next_reading : (b : ℕ) (t : Timer) (l r : ℕ) → t.last ≡ some l → l ≡ (b + t.now) % turn → (r < turn) × (elapsed_at t.last t.now r < elapsed_top)
    → r ≡ (b + elapsed_at t.last t.now r) % turn
unfolding elapsed_at
next_reading b t l r e h k =
    let m : min elapsed_top (t.now + age r l) < elapsed_top = rw e at k.1 in
    let n : min elapsed_top (t.now + age r l) ≡ t.now + age r l = omega arith in
    rw (e, n) (omega (arith, k.0))

young_age : (b t a : ℕ) → a ≤ t → t - a < turn → age ((b + t) % turn) ((b + a) % turn) ≡ t - a
young_age b t a h k = omega arith

-- a time of document 01 is the first reading and the elapsed time, modulo a turn
paired : Pairing counter_clock elapsed_clock
paired = record {
  Index = ℕ;
  mapped = λ b t. (b + t) % turn;
  Good = λ r n m. (r < turn) × (m < elapsed_top);
  Linked = λ b l n. l ≡ (b + n) % turn;
  first = λ t r h. (r, first-reading r h.0, first-reading r h.0);
  next = λ b t l r e h k. let n = next_reading b t l r e h k in (n, n);
}

-- ---- no time that the station keeps is after its next call

Due : Station → Type 0
Due g = (r : ℕ) → elapsed_at g.timer.last g.timer.now r < elapsed_top → Past (elapsed_at g.timer.last g.timer.now r) g

due_first : (i : Option (List ℕ)) (l : List Listed) → Due (blank unset i l)
unfolding Due Rising
due_first i l r h = (new-past _ l, omega arith)

not-before : (n l r : ℕ) → elapsed_at (some l) n r < elapsed_top → n ≤ elapsed_at (some l) n r
unfolding elapsed_at
not-before n l r h = omega arith

due_next : (n l : ℕ) (g : Station) → g.timer ≡ record { last = some l; now = n } → Past n g → Due g
unfolding Due
due_next n l g e h r k =
    let k' : elapsed_at (some l) n r < elapsed_top = rw e at k in
    rw e (past-later (elapsed_at (some l) n r) g n (not-before n l r k') h.0 h.1)

due_step : (most : Capacities) (g : Station) (x : Call) → Due g → (timed elapsed_clock (reading_of x) g).timer.now < elapsed_top → Due (step elapsed_clock most g x).station
unfolding Due step timed without_late
due_step most g x due short =
    let h = timed elapsed_clock (reading_of x) g in
    due_next h.timer.now (reading_of x) (step elapsed_clock most g x).station (step-timer elapsed_clock most g x)
    (act-past elapsed_clock.since most x (without_late elapsed_clock.since h) (drop_past elapsed_clock.since h (due (reading_of x) short)))

-- ---- the claim

young_ages : (g : Station) (x : Call) → Past g.timer.now g → EachAge (λ later earlier. elapsed_since later earlier < turn) g x
    → (b : ℕ) → EachAge (Agree (λ t. (b + t) % turn) age elapsed_since) g x
young_ages g x past young b =
    both_ages Before (λ later earlier. elapsed_since later earlier < turn) _ (λ t a h k. young_age b t a h k) g x
    (past.0, log-call Before g (rising_pairs 0 g.timer.now g.log past.1) x) young

agreed_from : (most : Capacities) (g h : Station) → Paired paired g h → Due h → (xs : List Call) → Always Young elapsed_clock most h xs → replies counter_clock most g xs ≡ replies elapsed_clock most h xs
unfolding replies Always paired Due timed
agreed_from most g h p due [] y = refl
agreed_from most g h p due (x ∷ xs) y =
    let ages = young_ages (timed elapsed_clock (reading_of x) h) x (due (reading_of x) y.0.1) y.0.2 in
    ap₂ ◌∷◌ (paired_reply paired most g h x p (y.0.0, y.0.1) ages)
    (agreed_from most (step counter_clock most g x).station (step elapsed_clock most h x).station (paired_step paired most g h x p (y.0.0, y.0.1) ages) (due_step most h x due y.0.1) xs y.1)

pub old_and_new_agree : OldAndNewAgree
old_and_new_agree most i l cs y =
    let b = setup_blank most i l in
    let g = (setup most i l).station in
    agreed_from most g g (rw b.2 (paired_first paired unset b.0 b.1)) (rw b.2 (due_first b.0 b.1)) cs y
