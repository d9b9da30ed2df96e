-- Laws of the choice.
-- Assumes nothing.
use Rattle.std.proofs.Common.{◌≡◌, refl, Bool, true, false}
use Rattle.std.proofs.lemmas.Bool.{false≢true}
use Rattle.laws.specs.Choice.{when◌then◌else◌}

-- what holds of both cases holds of the choice
pub either {ℓ} : {A : Type 0} (P : A → Type ℓ) (b : Bool) (x y : A) → (b ≡ true → P x) → (b ≡ false → P y) → P (when b then x else y)
unfolding when◌then◌else◌
either P true x y f g = f refl
either P false x y f g = g refl

-- a function of a choice
pub apply_if : {A B : Type 0} (f : A → B) (b : Bool) (x y : A) → f (when b then x else y) ≡ (when b then f x else f y)
unfolding when◌then◌else◌
apply_if f true x y = refl
apply_if f false x y = refl

-- false is not true
pub never : {A : Type 0} → false ≡ true → A
never e = absurd (false≢true e)

-- a choice whose test is known
pub when_true : {A : Type 0} (x y : A) → (when true then x else y) ≡ x
unfolding when◌then◌else◌
when_true x y = refl

pub when_false : {A : Type 0} (x y : A) → (when false then x else y) ≡ y
unfolding when◌then◌else◌
when_false x y = refl

pub ruleset choices = (when_true, when_false)
