-- Document 01: "Elements follow: ID, length, body." Subelements have the same form.
-- Assumes nothing.
use Rattle.std.specs.Prelude.{ℕ, zero, suc, ◌+◌, List, ◌∷◌, ltb, length, get_or, Option, None, Some}
use Rattle.laws.specs.Choice.{when◌then◌else◌}
use Rattle.laws.specs.Buffers.{pieces}

abbrev pub framed : ℕ → List ℕ → List ℕ
framed id body = id ∷ length body ∷ body

-- where the one at a position ends; 0 where its "header or body passes the end"
unfoldable pub piece_end : List ℕ → ℕ → ℕ → ℕ
piece_end s at end =
    when ltb end (at + 2) then 0
    else when ltb end (at + 2 + get_or s (at + 1) 0) then 0
    else at + 2 + get_or s (at + 1) 0

-- the place of a number that is 0 where there is none
abbrev pub placed : ℕ → Option ℕ
placed zero = None
placed (suc n) = Some (suc n)

-- a list of subelements, and its octets
pub record Subelement : Type 0 where
  pub id : ℕ
  pub octets : List ℕ

unfoldable pub subelements : List Subelement → List ℕ
subelements ps = pieces (λ _ p. framed p.id p.octets) 0 ps
