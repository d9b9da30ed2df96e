-- Laws of the identity: its length, and what is left of its table from a row on.
-- Assumes nothing.
use Rattle.std.proofs.Common.{ℕ, ◌+◌, ◌<◌, ◌≤◌, ◌≡◌, Bool, true, false, List, eqb, length, get_or, drop, drop_of_length-le, drop-cons, add-one, ltb-false}
use Rattle.laws.specs.Choice.{when◌then◌else◌}
use Rattle.laws.proofs.Choice.{either, never}
use Rattle.identities.specs.declared.Row.{Row}
use Rattle.identities.specs.Identity.{Walk, rows, past_row, pass_row, good_from, good_identity}

pub identity_most : (s : List ℕ) → good_identity s ≡ true → length s ≤ 252
unfolding good_identity
identity_most s = either (λ (b : Bool). b ≡ true → length s ≤ 252) _ _ _ (λ _. never) (λ h _. ltb-false 252 (length s) h)

module _ (s : List ℕ) (at i : ℕ) where
  -- the row i had its turn, which was fine, or not
  module _ (h : i < 10) {r : Row} {w : Walk} (row : r ≡ get_or rows i past_row) (is : w ≡ pass_row s at r) where
    pub rows_next : w.fine ≡ true → good_from s w.at (drop (i + 1) rows) ≡ good_from s at (drop i rows)
    unfolding good_from when◌then◌else◌
    rows_next f = rw (drop-cons rows i past_row h, add-one, ← row, ← is, f)

    pub rows_stop : w.fine ≡ false → false ≡ good_from s at (drop i rows)
    unfolding good_from when◌then◌else◌
    rows_stop f = rw (drop-cons rows i past_row h, ← row, ← is, f)

  pub rows_end : 10 ≤ i → good_from s at (drop i rows) ≡ eqb at (length s)
  unfolding good_from
  rows_end h = rw (drop_of_length-le rows {i = i} h)
