-- Document 01: "All multi-octet fields are least octet first."
-- Assumes nothing.
use Rattle.std.specs.Prelude.{ℕ, zero, suc, ◌+◌, ◌*◌, ◌/◌, ◌%◌, List, [], ◌∷◌, get_or}

-- a field from its two octets, and each octet from the field
abbrev pub pair : ℕ → ℕ → ℕ
pair least most = least + 256 * most

abbrev pub low : ℕ → ℕ
low x = x % 256

abbrev pub high : ℕ → ℕ
high x = x / 256

-- the field at a position; octets past the end are 0
abbrev pub pair_at : List ℕ → ℕ → ℕ
pair_at s at = pair (get_or s at 0) (get_or s (at + 1) 0)

-- so many octets at a position; those past the end are 0
unfoldable pub octets_at : List ℕ → ℕ → ℕ → List ℕ
octets_at s at zero = []
octets_at s at (suc n) = get_or s at 0 ∷ octets_at s (at + 1) n
