-- Laws of what stands in a list, and of what holds of all that stands in it.
-- Assumes nothing.
use Rattle.std.proofs.Common.{ℕ, zero, suc, ◌≤◌, ◌≡◌, refl, Bool, true, false, ◌&&◌, ◌||◌, List, [], ◌∷◌, ◌++◌, map, eqb, leb, take, eqb-true, leb-true}
use Rattle.laws.specs.Members.{Among, first, later, All, nil, also}
use Rattle.laws.proofs.Choice.{never}
use Rattle.std.proofs.lemmas.Bool.{and_parts}

-- ---- one

among_nil : {A B : Type 0} {x : A} (xs : List A) → Among x xs → xs ≡ [] → B
among_nil xs first e = never cc
among_nil xs (later m) e = never cc

pub among_none : {A B : Type 0} {x : A} → Among x [] → B
among_none m = among_nil [] m refl

-- another than the first
pub among_behind : {A : Type 0} {x y : A} {ys : List A} → Among x (y ∷ ys) → (x ≡ y → ⊥) → Among x ys
among_behind first n = absurd (n refl)
among_behind (later m) n = m

pub among_map : {A B : Type 0} (f : A → B) {x : A} {xs : List A} → Among x xs → Among (f x) (map f xs)
among_map f first = first
among_map f (later m) = later (among_map f m)

-- a number, by a test that computes
abbrev is_among : ℕ → List ℕ → Bool
is_among n [] = false
is_among n (m ∷ ms) = eqb n m || is_among n ms

pub among_test : (n : ℕ) (ms : List ℕ) → is_among n ms ≡ true → Among n ms
among_test n [] e = never e
among_test n (m ∷ ms) e = go (eqb n m) refl e (among_test n ms)
  where
    go : (b : Bool) → eqb n m ≡ b → (b || is_among n ms) ≡ true → (is_among n ms ≡ true → Among n ms) → Among n (m ∷ ms)
    go true p h rest = rw (eqb-true n m p) first
    go false p h rest = later (rest h)

-- numbers are at most the bound that a test finds
abbrev are_at_most : ℕ → List ℕ → Bool
are_at_most k [] = true
are_at_most k (m ∷ ms) = leb m k && are_at_most k ms

pub among_at_most : (k n : ℕ) (ms : List ℕ) → are_at_most k ms ≡ true → Among n ms → n ≤ k
among_at_most k n [] e h = elim h [ ]
among_at_most k n (m ∷ ms) e first = leb-true m k (and_parts (leb m k) (are_at_most k ms) e).0
among_at_most k n (m ∷ ms) e (later h) = among_at_most k n ms (and_parts (leb m k) (are_at_most k ms) e).1 h

-- ---- all

module _ {A : Type 0} {P : A → Type 0} where
  pub all_among : {x : A} {xs : List A} → All P xs → Among x xs → P x
  all_among nil h = elim h [ ]
  all_among (also p ps) first = p
  all_among (also p ps) (later m) = all_among ps m

  -- with one more behind
  pub all_end : {x : A} (xs : List A) → All P xs → P x → All P (xs ++ (x ∷ []))
  all_end [] ps q = also q nil
  all_end (y ∷ ys) (also p ps) q = also p (all_end ys ps q)

  pub all_take : (n : ℕ) (xs : List A) → All P xs → All P (take n xs)
  all_take zero xs p = nil
  all_take (suc n) [] p = nil
  all_take (suc n) (x ∷ xs) (also p ps) = also p (all_take n xs ps)

  pub all_weaken : {Q : A → Type 0} → ((x : A) → P x → Q x) → (xs : List A) → All P xs → All Q xs
  all_weaken f [] ps = nil
  all_weaken f (x ∷ xs) (also p ps) = also (f x p) (all_weaken f xs ps)
