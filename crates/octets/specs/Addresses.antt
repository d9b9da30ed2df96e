-- Addresses of six octets (document 01: consoles, BSSIDs, destinations).
-- Assumes nothing.
use Rattle.std.specs.Prelude.{ℕ, ◌%◌, Bool, true, false, ◌&&◌, List, [], ◌∷◌, eqb, get_or}
use Rattle.octets.specs.Fields.{octets_at}

-- the same octets
unfoldable pub same : List ℕ → List ℕ → Bool
same [] [] = true
same [] (y ∷ ys) = false
same (x ∷ xs) [] = false
same (x ∷ xs) (y ∷ ys) = eqb x y && same xs ys

-- "Group destination (low bit of first octet)"
abbrev pub is_group : List ℕ → Bool
is_group a = eqb (get_or a 0 0 % 2) 1

-- the six octets at a position
abbrev pub address_at : List ℕ → ℕ → List ℕ
address_at s at = octets_at s at 6
