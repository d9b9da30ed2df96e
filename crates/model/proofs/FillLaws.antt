-- Laws of filling, for any kind of request.
-- Assumes nothing.
use Rattle.std.proofs.Common.{ℕ, zero, suc, ◌-◌, ◌≤◌, ◌≡◌, refl, arith, length, length-append, leb-true, le-leb}
use Rattle.std.proofs.Math.Option.{Option, none, some}
use Rattle.laws.specs.Choice.{when◌then◌else◌}
use Rattle.laws.proofs.Choice.{either}
use Rattle.model.specs.Fill.{Piece, fill_with, fill}

module _ {R : Type 0} (next : R → Option (Piece R)) where
  -- ---- a fill stays within its room
  pub fill-fits : (fuel room : ℕ) (r : R) → length (fill next fuel room r).octets ≤ room
  unfolding fill fill_with
  fill-fits zero room r = omega arith
  fill-fits (suc fuel) room r = by_next (next r) (fill-fits fuel)
    where
      by_next : (o : Option (Piece R)) → ((k : ℕ) (q : R) → length (fill next fuel k q).octets ≤ k)
          → length (fill_with r room (λ p. fill next fuel (room - length p.octets) p.rest) o).octets ≤ room
      by_next none ih = omega arith
      by_next (some p) ih =
          either (λ (x : Piece R). length x.octets ≤ room) _ _ _
          (λ h. omega (arith, leb-true (length p.octets) room h, length-append p.octets (fill next fuel (room - length p.octets) p.rest).octets, ih (room - length p.octets) p.rest))
          (λ _. omega arith)

  -- ---- what is left of a request

  -- to a request is related what is left of it, if what is left behind its next piece is
  pub fill-rest : (Rel : R → R → Type 0) → ((r : R) → Rel r r) → ((r r' : R) (p : Piece R) → next r ≡ some p → Rel p.rest r' → Rel r r')
      → (fuel room : ℕ) (r : R) → Rel r (fill next fuel room r).rest
  unfolding fill fill_with
  fill-rest Rel same more zero room r = same r
  fill-rest Rel same more (suc fuel) room r = by_next (next r) refl (fill-rest Rel same more fuel)
    where
      by_next : (o : Option (Piece R)) → next r ≡ o → ((k : ℕ) (q : R) → Rel q (fill next fuel k q).rest)
          → Rel r (fill_with r room (λ p. fill next fuel (room - length p.octets) p.rest) o).rest
      by_next none e ih = same r
      by_next (some p) e ih =
          either (λ (x : Piece R). Rel r x.rest) _ _ _ (λ _. more r _ p e (ih (room - length p.octets) p.rest)) (λ _. same r)

  -- where the next piece fits, what is left of the request is what is left behind it
  pub fill_more : (fuel room : ℕ) (r : R) (p : Piece R) → next r ≡ some p → length p.octets ≤ room
      → (fill next (suc fuel) room r).rest ≡ (fill next fuel (room - length p.octets) p.rest).rest
  unfolding fill fill_with when◌then◌else◌
  fill_more fuel room r p e h = rw (e, le-leb (length p.octets) room h)

  pub fill_none : (fuel room : ℕ) (r : R) → next r ≡ none → (fill next fuel room r).rest ≡ r
  unfolding fill fill_with
  fill_none zero room r e = refl
  fill_none (suc fuel) room r e = rw e
