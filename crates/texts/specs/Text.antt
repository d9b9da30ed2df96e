-- Text, in ASCII: names, numbers, and the lines that several programs print.
-- Assumes nothing.
use Rattle.std.specs.Prelude.{ℕ, zero, suc, ◌+◌, ◌-◌, ◌/◌, ◌%◌, ◌≤◌, ◌≡◌, ◌&&◌, List, [], ◌∷◌, ◌++◌, leb, ltb, eqb, length}
use Prim.Native.Char.{code}
use Prim.Native.String.{String, [] as none, ◌∷◌ as ◌then◌}
use Rattle.laws.specs.Choice.{when◌then◌else◌}
use Rattle.laws.specs.Buffers.{pieces}
use Rattle.octets.specs.Refusals.{Refusal}

-- the octets of a text
abbrev pub text : String → List ℕ
text none = []
text (c then rest) = code c ∷ text rest

-- ---- numbers

-- the character of a digit below 16: `0` to `9`, then `a` to `f`
unfoldable pub digit : ℕ → ℕ
digit x = when ltb x 10 then 48 + x else 87 + x

-- the digits of n in front of a text, at least so many, at most as many as the fuel says
unfoldable pub spell : ℕ → ℕ → ℕ → List ℕ → List ℕ
spell zero least n rest = rest
spell (suc k) least n rest =
    when eqb (n / 10) 0 && leb least 1 then digit (n % 10) ∷ rest
    else spell k (least - 1) (n / 10) (digit (n % 10) ∷ rest)

-- a number below 2 ^ 64 has at most 20 digits
unfoldable pub decimal : ℕ → ℕ → List ℕ
decimal least n = spell 20 least n []

-- an octet as two digits
unfoldable pub hex : ℕ → List ℕ
hex x = digit (x / 16) ∷ digit (x % 16) ∷ []

-- a number behind a name, in decimal and in hexadecimal
unfoldable pub named : List ℕ → ℕ → List ℕ
named name n = name ++ decimal 1 n

unfoldable pub hexed : List ℕ → ℕ → List ℕ
hexed name x = name ++ hex x

-- octets in hexadecimal, each behind the name
abbrev pub hexes : List ℕ → List ℕ → List ℕ
hexes name o = pieces (λ (i : ℕ) (x : ℕ). hexed name x) 0 o

abbrev pub field : String → ℕ → List ℕ
field name n = named (text name) n

-- ---- lines

-- "A refusal prints one line, `refused 7 at 8`: number and place."
unfoldable pub refusal_line : Refusal → List ℕ
refusal_line r = field "refused " r.number ++ field " at " r.place ++ text "\n"

-- how many octets it has at most: the number is an octet, the place has 64 bits
abbrev pub refusal_most : ℕ
refusal_most = 36

-- `frame 0 dialog 7 elements 1`: "action, dialog token, request elements"; a report has its own name
unfoldable pub frame_line : List ℕ → ℕ → ℕ → ℕ → List ℕ
frame_line name action dialog count = named name action ++ field " dialog " dialog ++ field " elements " count ++ text "\n"

-- `element 78 token 5 type 0`: "Then one line each: ID, token, type, .."
unfoldable pub element_head : ℕ → ℕ → ℕ → List ℕ
element_head id token ty = field "element " id ++ field " token " token ++ field " type " ty

-- ---- what a function that writes into a text leaves, where the text has room for so many octets

-- o behind what stands there; where it does not fit, nothing
unfoldable pub put_whole : ℕ → List ℕ → List ℕ → List ℕ
put_whole room o s = when leb (length s + length o) room then s ++ o else s

-- of at most so many octets, all of it or nothing
pub record PutsWhole (room most : ℕ) (o s y : List ℕ) : Type 0 where
  pub short : length o ≤ most
  pub does : y ≡ put_whole room o s

-- of at most so many octets, all of it where there is room for all of it
pub record Puts (room most : ℕ) (o s y : List ℕ) : Type 0 where
  pub short : length o ≤ most
  pub does : length s + length o ≤ room → y ≡ s ++ o
