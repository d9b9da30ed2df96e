-- What stands in a list, and what holds of all that stands in it.
-- Assumes nothing.
use Rattle.std.specs.Prelude.{Bool, false, ◌||◌, List, [], ◌∷◌}

pub data Among {A : Type 0} (x : A) : List A → Type 0 where
  first : {xs : List A} → Among x (x ∷ xs)
  later : {y : A} {xs : List A} → Among x xs → Among x (y ∷ xs)

pub data All {A : Type 0} (P : A → Type 0) : List A → Type 0 where
  nil : All P []
  also : {x : A} {xs : List A} → P x → All P xs → All P (x ∷ xs)

-- does one that stands in it pass a test?
unfoldable pub any : {A : Type 0} → (A → Bool) → List A → Bool
any test [] = false
any test (x ∷ xs) = test x || any test xs
