-- Where the parts of a record end. 0 means refused, and what stands behind a refused part is refused.
-- Assumes nothing.
use Rattle.std.specs.Prelude.{ℕ, zero, suc, ◌+◌, ◌*◌, Bool, List, length, get_or, eqb, ltb, Option, None, Some}
use Rattle.laws.specs.Choice.{when◌then◌else◌}
use Rattle.octets.specs.Fields.{pair_at}

-- what the code has of a part, by where it ends: nothing where it is refused
abbrev pub unless_refused : {A : Type 0} → ℕ → A → Option A
unless_refused zero part = None
unless_refused (suc end) part = Some part

-- and where it ends
abbrev pub found : ℕ → Option ℕ
found end = unless_refused end end

-- so many octets from a position on; they do not pass the end of the input
unfoldable pub place_behind_record : List ℕ → ℕ → ℕ → ℕ
place_behind_record s at n =
    when eqb at 0 then 0
    else when ltb (length s) (at + n) then 0
    else at + n

-- "no length in them over 4,096"
abbrev pub longest_length : ℕ
longest_length = 4096

abbrev pub bad_length : List ℕ → ℕ → Bool
bad_length s at = ltb longest_length (pair_at s at)

-- "length (2), octets"
unfoldable pub octets_end : List ℕ → ℕ → ℕ
octets_end s at = when bad_length s at then 0 else place_behind_record s (place_behind_record s at 2) (pair_at s at)

-- "number of addresses (1), addresses (6 each)", and "each address is followed by its form (1)"
unfoldable pub list_end : List ℕ → ℕ → ℕ
list_end s at = place_behind_record s (place_behind_record s at 1) (7 * get_or s at 0)
