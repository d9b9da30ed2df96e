-- Laws of addresses.
-- Assumes nothing.
use Rattle.std.specs.Cmp.Lexicographic.{pointwise}
use Rattle.std.proofs.Common.{nat_eq, ℕ, ◌+◌, ◌≤◌, ◌<◌, ◌≡◌, refl, sym, ap, ◌∙◌, Bool, true, false, ◌&&◌, List, [], ◌∷◌, add-one, arith, eqb, length, get_or, drop, drop_of_length-le, drop-cons, eq-eqb, ne_eqb, eqb-true}
use Rattle.octets.specs.Addresses.{same}

-- ---- equality

pub same_refl : (a : List ℕ) → same a a ≡ true
unfolding same
same_refl [] = refl
same_refl (x ∷ a) = rw (eq-eqb x x refl, same_refl a)

pub same_true : (a b : List ℕ) → same a b ≡ true → a ≡ b
unfolding same
same_true [] [] e = refl
same_true [] (y ∷ b) e = cc
same_true (x ∷ a) [] e = cc
same_true (x ∷ a) (y ∷ b) e = go (eqb x y) refl (same_true a b) e
  where
    go : (t : Bool) → eqb x y ≡ t → (same a b ≡ true → a ≡ b) → (t && same a b) ≡ true → ◌≡◌ {A = List ℕ} (x ∷ a) (y ∷ b)
    go true p r q = rw (eqb-true x y p, r q)
    go false p r q = cc

pub same_sym : (a b : List ℕ) → same a b ≡ same b a
same_sym a b = go (same a b) (same b a) refl refl
  where
    go : (s t : Bool) → same a b ≡ s → same b a ≡ t → s ≡ t
    go true true p q = refl
    go true false p q = sym (same_refl b) ∙ ap (same b) (sym (same_true a b p)) ∙ q
    go false true p q = sym p ∙ ap (same a) (same_true b a q) ∙ same_refl a
    go false false p q = refl

-- the invariant of a loop that compares two lists of n octets: what is left of both compares as the whole does
pub record Comparing (n : ℕ) (a b : List ℕ) (i : ℕ) : Type 0 where
  pub most : i ≤ n
  pub one : length a ≡ n
  pub other : length b ≡ n
  pub left : same (drop i a) (drop i b) ≡ same a b

module _ {n : ℕ} {a b : List ℕ} {i : ℕ} (C : Comparing n a b i) where
  module _ (h : i < n) where
    apart : same (drop i a) (drop i b) ≡ (eqb (get_or a i 0) (get_or b i 0) && same (drop (i + 1) a) (drop (i + 1) b))
    unfolding same
    apart = rw (add-one, drop-cons a i 0 (omega (arith, C.one)), drop-cons b i 0 (omega (arith, C.other)))

    pub compare_stops : (get_or a i 0 ≡ get_or b i 0 → ⊥) → false ≡ same a b
    compare_stops e = rw (← C.left, apart, ne_eqb (get_or a i 0) (get_or b i 0) e)

    pub compare_more : get_or a i 0 ≡ get_or b i 0 → Comparing n a b (i + 1)
    compare_more e = record {
      most = omega arith;
      one = C.one;
      other = C.other;
      left = rw (← C.left, apart, eq-eqb (get_or a i 0) (get_or b i 0) e);
    }

  pub compare_done : n ≤ i → true ≡ same a b
  unfolding same
  compare_done h =
      rw (← C.left, drop_of_length-le a {i = i} (omega (arith, C.one)), drop_of_length-le b {i = i} (omega (arith, C.other)))

-- the library's equality of arrays is it
pub same_pointwise : (a b : List ℕ) → pointwise nat_eq a b ≡ same a b
unfolding same
same_pointwise [] [] = refl
same_pointwise [] (y ∷ b) = refl
same_pointwise (x ∷ a) [] = refl
same_pointwise (x ∷ a) (y ∷ b) = ap (◌&&◌ (eqb x y)) (same_pointwise a b)
