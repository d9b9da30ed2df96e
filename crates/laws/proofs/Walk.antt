-- Laws of walks. `Rest` is the invariant of every walk: what is left of it gives what the whole walk gives.
-- Assumes nothing.
use Rattle.std.proofs.Common.{ℕ, zero, suc, ◌≤◌, ◌<◌, ◌≡◌, refl, sym, ◌∙◌, Bool, true, false, ◌&&◌, eqb, ltb, eq-eqb, ne_eqb, lt-ltb, le-ltb, arith}
use Rattle.laws.specs.Walk.{repeat_while}

-- with at least `left` turns of fuel, the walk from w gives `whole`
pub record Rest {A : Type 0} (more : A → Bool) (step : A → A) (whole : A) (left : ℕ) (w : A) : Type 0 where
  pub fuel : ℕ
  pub enough : left ≤ fuel
  pub same : repeat_while fuel more step w ≡ whole

module _ {A : Type 0} (more : A → Bool) (step : A → A) where
  stops : (k : ℕ) (w : A) → more w ≡ false → repeat_while k more step w ≡ w
  unfolding repeat_while
  stops zero w e = refl
  stops (suc k) w e = rw (e, repeat_while)

  goes : (k : ℕ) (w : A) → more w ≡ true → repeat_while (suc k) more step w ≡ repeat_while k more step (step w)
  unfolding repeat_while
  goes k w e = rw (e, repeat_while)

  -- the whole walk is what is left at its start
  pub start : (fuel left : ℕ) (w : A) → left ≤ fuel → Rest more step (repeat_while fuel more step w) left w
  start fuel left w h = record { fuel = fuel; enough = h; same = refl }

module _ {A : Type 0} {more : A → Bool} {step : A → A} {whole : A} where
  -- nothing is left: the walk has given w
  pub done : {left : ℕ} {w : A} → Rest more step whole left w → more w ≡ false → w ≡ whole
  done {w = w} r e = sym (stops more step r.fuel w e) ∙ r.same

  next_at : (k left left' : ℕ) (w : A) → left ≤ k → repeat_while k more step w ≡ whole → more w ≡ true → left' < left → Rest more step whole left' (step w)
  next_at zero left left' w h e m p = absurd (omega arith)
  next_at (suc k) left left' w h e m p = record { fuel = k; enough = omega arith; same = sym (goes more step k w m) ∙ e }

  next : {left : ℕ} (left' : ℕ) {w : A} → Rest more step whole left w → more w ≡ true → left' < left → Rest more step whole left' (step w)
  next {left = left} left' {w = w} r m p = next_at r.fuel left left' w r.enough r.same m p

  -- a turn that is the last: what the step gave is what the walk gives
  pub last : {left : ℕ} {w w' : A} → Rest more step whole left w → more w ≡ true → 0 < left → w' ≡ step w → more w' ≡ false → w' ≡ whole
  last r m p e f = rw e (done (next 0 r m p) (rw e at f))

  -- a turn that is not
  pub again : {left : ℕ} (left' : ℕ) {w w' : A} → Rest more step whole left w → more w ≡ true → left' < left → w' ≡ step w → Rest more step whole left' w'
  again left' r m p e = rw e (next left' r m p)

-- the test of a walk over octets: not refused (number 0), and not at the end
module _ (n a e : ℕ) where
  pub go_on : n ≡ 0 → a < e → (eqb n 0 && ltb a e) ≡ true
  go_on p q = simp (eq-eqb _ _ p, lt-ltb _ _ q)

  pub stop_refused : (n ≡ 0 → ⊥) → (eqb n 0 && ltb a e) ≡ false
  stop_refused p = simp (ne_eqb _ _ p)

  pub stop_end : n ≡ 0 → e ≤ a → (eqb n 0 && ltb a e) ≡ false
  stop_end p q = simp (eq-eqb _ _ p, le-ltb _ _ q)

-- what every step that is taken keeps, the walk keeps
pub keeps_while : {A : Type 0} (P : A → Type 0) (more : A → Bool) (step : A → A) → ((w : A) → more w ≡ true → P w → P (step w)) → (k : ℕ) (w : A) → P w → P (repeat_while k more step w)
unfolding repeat_while
keeps_while P more step f zero w p = p
keeps_while P more step f (suc k) w p = at_test (more w) refl (λ m. keeps_while P more step f k (step w) (f w m p))
  where
    at_test : (b : Bool) → more w ≡ b → (more w ≡ true → P (repeat_while k more step (step w))) → P (elim b [ true ↦ repeat_while k more step (step w) | false ↦ w ])
    at_test true m x = x m
    at_test false m x = p

-- what every step keeps, the walk keeps
pub keeps : {A : Type 0} (P : A → Type 0) (more : A → Bool) (step : A → A) → ((w : A) → P w → P (step w)) → (k : ℕ) (w : A) → P w → P (repeat_while k more step w)
keeps P more step f = keeps_while P more step (λ w _. f w)
