-- Document 01: the identity (IEEE: Manufacturer Information), and cause 16.
-- Assumes nothing.
use Rattle.std.specs.Prelude.{ℕ, ◌+◌, Bool, true, false, not, ◌&&◌, List, [], ◌∷◌, eqb, ltb, length, get_or, Option, Some, None}
use Rattle.laws.specs.Choice.{when◌then◌else◌}
use Rattle.octets.specs.Elements.{piece_end}
use Rattle.identities.specs.declared.Row.{Row}

-- a row of Table v18: a subelement's ID, whether it must stand, and the least and the most octets of its body
abbrev pub row : ℕ → Bool → ℕ → ℕ → Row
row id must least most = record { id = id; must = must; least = least; most = most }

-- "in the order 13, 11, 12, 14, 9, 4, 3, 6, 7, 21 (003, Table v18); the first five must stand, the rest may; none twice. Body lengths: 13
-- has 3; 3, 6, 7 have 1; the others 1 to 249 (21: house)."
abbrev pub rows : List Row
rows =
    row 13 true 3 3
    ∷ row 11 true 1 249
    ∷ row 12 true 1 249
    ∷ row 14 true 1 249
    ∷ row 9 true 1 249
    ∷ row 4 false 1 249
    ∷ row 3 false 1 1
    ∷ row 6 false 1 1
    ∷ row 7 false 1 1
    ∷ row 21 false 1 249
    ∷ []

-- what stands past the table: the default that the logic reads there
abbrev pub past_row : Row
past_row = row 0 false 0 0

-- does the subelement of a row stand at a position?
unfoldable pub stands : List ℕ → ℕ → Row → Bool
stands s at r = ltb at (length s) && eqb (get_or s at 0) r.id

-- a row's turn at a position: was it fine, and the position behind it
pub record Walk : Type 0 where
  pub fine : Bool
  pub at : ℕ

abbrev pub row_walked : Bool → ℕ → Walk
row_walked fine at = record { fine = fine; at = at }

-- a row's turn: its subelement, whole and of a body length in the row's range; or none, where it need not stand
unfoldable pub pass_row : List ℕ → ℕ → Row → Walk
pass_row s at r =
    when not (stands s at r) then row_walked (not r.must) at
    else when eqb (piece_end s at (length s)) 0 then row_walked false at
    else when ltb (get_or s (at + 1) 0) r.least then row_walked false at
    else when ltb r.most (get_or s (at + 1) 0) then row_walked false at
    else row_walked true (piece_end s at (length s))

-- the rows left, from a position on; behind the last one nothing is left
unfoldable pub good_from : List ℕ → ℕ → List Row → Bool
good_from s at [] = eqb at (length s)
good_from s at (r ∷ rs) = when (pass_row s at r).fine then good_from s (pass_row s at r).at rs else false

-- "The identity is a subelement list of at most 252 octets"
unfoldable pub good_identity : List ℕ → Bool
good_identity s = when ltb 252 (length s) then false else good_from s 0 rows

-- a row's turn at a position as code gives it: the position behind it, or none
abbrev pub turn : ℕ → Option ℕ → Walk
turn at None = row_walked false at
turn at (Some next) = row_walked true next
