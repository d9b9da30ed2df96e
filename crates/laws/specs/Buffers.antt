-- What a buffer holds after octets were written to it (document 01: a lent buffer).
-- Assumes nothing.
use Rattle.std.specs.Prelude.{ℕ, suc, ◌+◌, List, [], ◌∷◌, ◌++◌, leb, length, take, drop}
use Rattle.laws.specs.Choice.{when◌then◌else◌}

-- o at the front of a buffer; what lies past it keeps its values
abbrev pub onto : {A : Type 0} → List A → List A → List A
onto o s = o ++ drop (length o) s

-- the answer of a writer: a number, and the buffer afterwards
pub record WrittenBuffer : Type 0 where
  pub answer : ℕ
  pub octets : List ℕ

abbrev pub wrote : ℕ → List ℕ → WrittenBuffer
wrote n s = record { answer = n; octets = s }

-- o at the front of a buffer, answered by its length; where it does not fit, nothing, answered by 0
unfoldable pub put_front : List ℕ → List ℕ → WrittenBuffer
put_front o s = when leb (length o) (length s) then wrote (length o) (onto o s) else wrote 0 s

-- o behind the first `at` octets, answered by the place behind it; where it does not fit, nothing, answered by `at`
unfoldable pub put_at : List ℕ → ℕ → List ℕ → WrittenBuffer
put_at o at s = when leb (at + length o) (length s) then wrote (at + length o) (take at s ++ onto o (drop at s)) else wrote at s

-- the octets of a list of pieces, one behind the other, each with its number in the list
unfoldable pub pieces : {P : Type 0} → (ℕ → P → List ℕ) → ℕ → List P → List ℕ
pieces f i [] = []
pieces f i (p ∷ ps) = f i p ++ pieces f (suc i) ps
