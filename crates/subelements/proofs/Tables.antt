-- Laws of the tables of lengths: what holds of every row is found by computation.
-- Assumes nothing.
use Rattle.std.proofs.Common.{ℕ, zero, suc, ◌≤◌, ◌<◌, ◌≡◌, refl, ap, ◌∙◌, Bool, true, false, ◌&&◌, List, [], not-suc-le-zero, arith, leb, ltb, eqb, get_or, leb-true, ltb-true, ltb-false, eqb-true}
use Rattle.std.proofs.Math.ListN.{get_or-eq_default}
use Rattle.std.proofs.lemmas.Bool.{eqb-false}
use Rattle.laws.proofs.Choice.{either}
use Rattle.std.proofs.lemmas.Bool.{and_parts}
use Rattle.subelements.specs.declared.Length.{Length}
use Rattle.subelements.specs.Subelements.{reserved, lengths, row_of, length_of, tables}

-- ---- a test of every number below a bound

abbrev pub every : ℕ → (ℕ → Bool) → Bool
every zero test = true
every (suc n) test = every n test && test n

pub every_at : (n : ℕ) (test : ℕ → Bool) → every n test ≡ true → (i : ℕ) → i < n → test i ≡ true
every_at zero test e i h = absurd (not-suc-le-zero h)
every_at (suc n) test e i h = go (eqb i n) refl (every_at n test (and_parts (every n test) (test n) e).0 i)
  where
    go : (b : Bool) → eqb i n ≡ b → (i < n → test i ≡ true) → test i ≡ true
    go true t before = ap test (eqb-true i n t) ∙ (and_parts (every n test) (test n) e).1
    go false t before = let p = eqb-false i n t in before (omega arith)

-- ---- rows

pub no_row : (ty id : ℕ) → tables ≤ ty → row_of ty id ≡ reserved
no_row ty id h = ap (λ (l : List Length). get_or l id reserved) (get_or-eq_default lengths [] h)

pub row-past : (ty id : ℕ) → 5 ≤ id → row_of ty id ≡ reserved
row-past zero id h = get_or-eq_default (get_or lengths 0 []) reserved h
row-past (suc zero) id h = get_or-eq_default (get_or lengths 1 []) reserved h
row-past (suc (suc zero)) id h = get_or-eq_default (get_or lengths 2 []) reserved h
row-past (suc (suc (suc ty))) id h = refl

-- what holds of the reserved row, and by a test of every other one, holds of all
module _ (P : Length → Type 0) (none : P reserved) (test : Length → Bool) (tells : (l : Length) → test l ≡ true → P l)
    (all : every tables (λ ty. every 5 (λ id. test (row_of ty id))) ≡ true) where
  pub every_row : (ty id : ℕ) → P (row_of ty id)
  every_row ty id = go (ltb ty tables) (ltb id 5) refl refl
    where
      go : (a b : Bool) → ltb ty tables ≡ a → ltb id 5 ≡ b → P (row_of ty id)
      go true true t u = tells (row_of ty id) (every_at 5 (λ i. test (row_of ty i)) (every_at tables (λ t. every 5 (λ i. test (row_of t i))) all ty (ltb-true ty tables t)) id (ltb-true id 5 u))
      go true false t u = rw (row-past ty id (ltb-false id 5 u)) none
      go false b t u = rw (no_row ty id (ltb-false ty tables t)) none

-- ---- lengths

pub no_length : (ty id first : ℕ) → row_of ty id ≡ reserved → length_of ty id first ≡ 0
unfolding length_of
no_length ty id first e = rw e (either (λ (n : ℕ). n ≡ 0) (eqb first 254) 0 0 (λ _. refl) (λ _. refl))

pub known_id : (ty id first : ℕ) → (length_of ty id first ≡ 0 → ⊥) → id < 5
known_id ty id first h = go (ltb id 5) refl
  where
    go : (b : Bool) → ltb id 5 ≡ b → id < 5
    go true t = ltb-true id 5 t
    go false t = absurd (h (no_length ty id first (row-past ty id (ltb-false id 5 t))))

-- the longer of a row's two lengths
pub length_most : (ty id first : ℕ) → length_of ty id first ≤ (row_of ty id).expanded
unfolding length_of
length_most ty id first =
    either (λ (n : ℕ). n ≤ (row_of ty id).expanded) (eqb first 254) _ _ (λ _. omega arith)
    (λ _. every_row (λ l. l.plain ≤ l.expanded) (omega arith) (λ l. leb l.plain l.expanded) (λ l e. leb-true _ _ e) refl ty id)

pub length_small : (ty id first : ℕ) → length_of ty id first ≤ 8
length_small ty id first =
    omega (arith, length_most ty id first, every_row (λ l. l.expanded ≤ 8) (omega arith) (λ l. leb l.expanded 8) (λ l e. leb-true _ _ e) refl ty id)
