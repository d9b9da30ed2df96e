-- A walk: a step that is taken again while something is left, at most as often as the fuel says.
-- Assumes nothing.
use Rattle.std.specs.Prelude.{ℕ, zero, suc, Bool, true, false}

unfoldable pub repeat_while : {A : Type 0} → ℕ → (A → Bool) → (A → A) → A → A
repeat_while zero more step w = w
repeat_while (suc k) more step w = elim (more w) [ true ↦ repeat_while k more step (step w) | false ↦ w ]
