-- Laws of elements' edges.
-- Assumes nothing.
use Rattle.laws.specs.Choice.{when◌then◌else◌}
use Rattle.laws.proofs.Choice.{either}
use Rattle.laws.proofs.Parts.{stands_at}
use Rattle.std.proofs.Common.{Option, None, Some, ℕ, zero, suc, ◌+◌, ◌≤◌, ◌<◌, ◌≡◌, refl, List, ◌++◌, length, get_or, drop, le-ltb, ltb-false, arith}
use Rattle.octets.specs.Elements.{framed, piece_end, placed}

-- ---- the place of a number

pub placed_some : (n : ℕ) → 0 < n → placed n ≡ Some n
placed_some zero h = absurd (omega arith)
placed_some (suc n) h = refl

-- there is one: it is the number, and not 0
pub record Placed (n k : ℕ) : Type 0 where
  pub is : k ≡ n
  pub some : k ≡ 0 → ⊥

pub at_place : {n k : ℕ} → Some k ≡ placed n → Placed n k
at_place {n = zero} {k = k} e = cc
at_place {n = suc n} {k = k} e = let i : k ≡ suc n = cc in record { is = i; some = λ z. omega arith }

pub no_place : {n : ℕ} → ◌≡◌ {A = Option ℕ} None (placed n) → 0 ≡ n
no_place {n = zero} e = refl
no_place {n = suc n} e = cc

-- ---- edges

-- one that ends at n: its length stands behind its ID, and it does not pass the end
pub record Ends (s : List ℕ) (at end n : ℕ) : Type 0 where
  pub is : at + 2 + get_or s (at + 1) 0 ≡ n
  pub within : n ≤ end

pub piece_ends : (s : List ℕ) (at end : ℕ) → (piece_end s at end ≡ 0 → ⊥) → Ends s at end (piece_end s at end)
unfolding piece_end
piece_ends s at end =
    let P : ℕ → Type 0 = λ (n : ℕ). (n ≡ 0 → ⊥) → Ends s at end n in
    either P _ _ _ (λ _ z. absurd (z refl)) (λ _. either P _ _ _ (λ _ z. absurd (z refl)) (λ h _. record { is = refl; within = ltb-false _ _ h }))

-- one that stands there whole
pub piece_stands : (s : List ℕ) (at end id : ℕ) (b r : List ℕ) → drop at s ≡ framed id b ++ r → at + 2 + length b ≤ end → piece_end s at end ≡ at + 2 + length b
unfolding piece_end when◌then◌else◌
piece_stands s at end id b r h fits =
    rw (le-ltb end (at + 2) (omega arith), stands_at s at (framed id b) r h 1 0, le-ltb end (at + 2 + length b) fits)
