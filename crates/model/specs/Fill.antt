-- Document 01, "Giving reports": a frame is filled with whole elements while each fits. It is one definition for both kinds of request.
-- Assumes nothing.
use Rattle.std.specs.Prelude.{ℕ, zero, suc, ◌-◌, List, [], ◌∷◌, ◌++◌, leb, length}
use Rattle.std.proofs.Math.Option.{Option, none, some}
use Rattle.laws.specs.Choice.{when◌then◌else◌}
use Rattle.octets.specs.Numbers.{category}

-- octets to write, and what is left of a request R after them
pub record Piece (R : Type 0) : Type 0 where
  pub octets : List ℕ
  pub rest : R

abbrev pub nothing_more : {R : Type 0} → R → Piece R
nothing_more r = record { octets = []; rest = r }

abbrev pub before : {R : Type 0} → List ℕ → Piece R → Piece R
before o p = record { octets = o ++ p.octets; rest = p.rest }

-- the next element of the request r, if there is one, and those behind it: written "while each fits"
unfoldable pub fill_with : {R : Type 0} → R → ℕ → (Piece R → Piece R) → Option (Piece R) → Piece R
fill_with r room behind none = nothing_more r
fill_with r room behind (some p) = when leb (length p.octets) room then before p.octets (behind p) else nothing_more r

-- "whole elements while each fits; each is written behind the one before it". The fuel is at least the number of elements that fit
unfoldable pub fill : {R : Type 0} → (R → Option (Piece R)) → ℕ → ℕ → R → Piece R
fill next zero room r = nothing_more r
fill next (suc fuel) room r = fill_with r room (λ p. fill next fuel (room - length p.octets) p.rest) (next r)

-- "the 3-octet header (request's dialog token), then whole elements"
unfoldable pub next_frame : {R : Type 0} → (R → Option (Piece R)) → ℕ → ℕ → ℕ → R → Piece R
next_frame next action dialog room r = before (category ∷ action ∷ dialog ∷ []) (fill next (room - 3) (room - 3) r)
