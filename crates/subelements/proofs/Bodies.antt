-- Laws of a body in its eight places.
-- Assumes nothing.
use Rattle.std.proofs.Common.{ℕ, ◌+◌, ◌≤◌, ◌<◌, min, ◌≡◌, refl, sym, ap, ◌∙◌, Bool, true, false, List, ◌++◌, zero-add, arith, leb, ltb, length, get_or, take, drop, get_or-take, length-take-le, ltb-true, leb-true, leb-false}
use Rattle.std.proofs.Math.ListN.{get_or-append, get_or-eq_default}
use Rattle.laws.specs.Choice.{when◌then◌else◌}
use Rattle.laws.proofs.Parts.{stands_at}
use Rattle.subelements.specs.Subelements.{body_octet, body_at}

-- the first n octets of x stand at a position: they are the body there
module _ (s : List ℕ) (at n : ℕ) (x r : List ℕ) (h : drop at s ≡ take n x ++ r) (enough : n ≤ length x) where
  octet_stands : (k : ℕ) → body_octet s at n k ≡ body_octet x 0 n k
  unfolding body_octet when◌then◌else◌
  octet_stands k = go (ltb k n) refl
    where
      go : (t : Bool) → ltb k n ≡ t → (when t then get_or s (at + k) 0 else 0) ≡ (when t then get_or x (0 + k) 0 else 0)
      go true q =
          let lt : k < n = ltb-true k n q in
          rw (zero-add k)
          (stands_at s at (take n x) r h k 0
          ∙ get_or-append (take n x) r 0 k (omega (arith, length-take-le n x enough))
          ∙ get_or-take n x k 0 lt)
      go false q = refl

  pub body_stands : body_at s at n ≡ body_at x 0 n
  unfolding body_at
  body_stands =
      rw (octet_stands 0, octet_stands 1, octet_stands 2, octet_stands 3, octet_stands 4, octet_stands 5, octet_stands 6, octet_stands 7)

-- past the end of s every octet is 0, wherever
module _ (s : List ℕ) (at from n : ℕ) (e : from ≡ min at (length s)) where
  octet_past : (k : ℕ) → get_or s (from + k) 0 ≡ get_or s (at + k) 0
  octet_past k = go (leb at (length s)) refl
    where
      go : (b : Bool) → leb at (length s) ≡ b → get_or s (from + k) 0 ≡ get_or s (at + k) 0
      go true t =
          let p = leb-true at (length s) t in
          let q : from ≡ at = omega arith in
          ap (λ (i : ℕ). get_or s (i + k) 0) q
      go false t =
          let p = leb-false at (length s) t in
          get_or-eq_default s 0 {n = from + k} (omega arith) ∙ sym (get_or-eq_default s 0 {n = at + k} (omega arith))

  octet_from : (k : ℕ) → body_octet s from n k ≡ body_octet s at n k
  unfolding body_octet
  octet_from k = rw (octet_past k)

  pub body_from : body_at s from n ≡ body_at s at n
  unfolding body_at
  body_from = rw (octet_from 0, octet_from 1, octet_from 2, octet_from 3, octet_from 4, octet_from 5, octet_from 6, octet_from 7)

-- what the check may use of the code that fills the places
pub ruleset bodies = (body_from, get_or-eq_default)
