-- Laws of a frame's head: one that is not refused is not too long, and what a writer puts there is not refused.
-- Assumes nothing.
use Rattle.std.proofs.Common.{ℕ, suc, ◌+◌, ◌≤◌, ◌≡◌, refl, false, List, ◌∷◌, arith, length, eqb, le-ltb, ltb-false, eq-eqb}
use Rattle.laws.specs.Choice.{when◌then◌else◌}
use Rattle.laws.proofs.Choice.{either}
use Rattle.octets.specs.declared.numbers.Kind.{Kind}
use Rattle.octets.specs.declared.numbers.Kind.TheVariants.{Event, Diagnostic}
use Rattle.octets.specs.Numbers.{category, longest_frame}
use Rattle.octets.specs.Frames.{frame_kind, frame_cause}

pub head-length : (s : List ℕ) (action : ℕ) → frame_cause s action ≡ 0 → length s ≤ longest_frame
unfolding frame_cause
head-length s action =
    let P : ℕ → Type 0 = λ (n : ℕ). n ≡ 0 → length s ≤ longest_frame in
    either P _ _ _ (λ _ e. absurd (omega arith)) (λ _. either P _ _ _ (λ _ e. absurd (omega arith)) (λ h _. ltb-false longest_frame (length s) h))

module _ (dialog : ℕ) (o : List ℕ) where
  pub head-accepted : (action : ℕ) → 3 + length o ≤ longest_frame → frame_cause (category ∷ action ∷ dialog ∷ o) action ≡ 0
  unfolding frame_cause when◌then◌else◌
  head-accepted action fits =
      rw (le-ltb (suc (suc (suc (length o)))) 3 (omega arith), le-ltb longest_frame (suc (suc (suc (length o)))) (omega arith), eq-eqb action action refl)

  -- the actions of requests, or of reports
  pub head_kind : (action : Kind → ℕ) → eqb (action Event) (action Diagnostic) ≡ false → (kind : Kind) → frame_kind (category ∷ action kind ∷ dialog ∷ o) (action Diagnostic) ≡ kind
  unfolding frame_kind when◌then◌else◌
  head_kind action other Event = rw other
  head_kind action other Diagnostic = rw (eq-eqb (action Diagnostic) (action Diagnostic) refl)
