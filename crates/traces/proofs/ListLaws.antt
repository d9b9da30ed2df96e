-- Laws of requesters that are read one behind the other: one more, and those past the end.
-- Assumes nothing.
use Rattle.std.proofs.Common.{ℕ, zero, suc, ◌+◌, ◌*◌, ◌≤◌, min, ◌≡◌, refl, sym, ap, ◌∙◌, List, [], ◌∷◌, ◌++◌, arith, add-one, length, take, Bool, true, false, leb, leb-true, leb-false}
use Rattle.octets.proofs.PlaceLaws.{octets-past}
use Rattle.traces.specs.Records.{requester_at, requesters_at}

module _ (s : List ℕ) where
  pub requesters_snoc : (n at : ℕ) → requesters_at s (suc n) at ≡ requesters_at s n at ++ (requester_at s (at + 7 * n) ∷ [])
  unfolding requesters_at
  requesters_snoc zero at = let e : at ≡ at + 7 * 0 = omega arith in ap (λ (k : ℕ). requester_at s k ∷ []) e
  requesters_snoc (suc n) at =
      let e : at + 7 + 7 * n ≡ at + 7 * suc n = omega arith in
      ap {B = List (List ℕ)} (λ r. requester_at s at ∷ r) (requesters_snoc n (at + 7) ∙ ap (λ (k : ℕ). requesters_at s n (at + 7) ++ (requester_at s k ∷ [])) e)

  pub requesters-length : (n at : ℕ) → length (requesters_at s n at) ≡ n
  unfolding requesters_at
  requesters-length zero at = refl
  requesters-length (suc n) at = ap suc (requesters-length n (at + 7))

  -- past the end every octet is 0, wherever
  pub requesters-past : (n a b : ℕ) → length s ≤ a → length s ≤ b → requesters_at s n a ≡ requesters_at s n b
  unfolding requesters_at
  requesters-past zero a b ha hb = refl
  requesters-past (suc n) a b ha hb =
      let t : requesters_at s n (a + 7) ≡ requesters_at s n (b + 7) = requesters-past n (a + 7) (b + 7) (omega arith) (omega arith) in
      rw (octets-past s 7 a b ha hb, t)

  -- so a position past the end counts as the end
  pub requesters-cut : (n from first : ℕ) → first ≡ min from (length s) → requesters_at s n first ≡ requesters_at s n from
  requesters-cut n from first e = go (leb from (length s)) refl
    where
      go : (b : Bool) → leb from (length s) ≡ b → requesters_at s n first ≡ requesters_at s n from
      go true h =
          let p = leb-true from (length s) h in
          let q : first ≡ from = omega arith in
          ap (requesters_at s n) q
      go false h =
          let p = leb-false from (length s) h in
          requesters-past n first from (omega arith) (omega arith)

  -- the loop that reads them: one more behind the first i
  pub requesters_next : (i from : ℕ) {list : List (List ℕ)} {x : List ℕ} → list ≡ requesters_at s i from → x ≡ requester_at s (from + 7 * i) → list ++ (x ∷ []) ≡ requesters_at s (i + 1) from
  requesters_next i from is e = rw (is, e, add-one) (sym (requesters_snoc i from))

  -- the first n of more
  pub requesters_first : (n m at : ℕ) → n ≤ m → take n (requesters_at s m at) ≡ requesters_at s n at
  unfolding requesters_at
  requesters_first zero m at h = refl
  requesters_first (suc n) zero at h = absurd (omega arith)
  requesters_first (suc n) (suc m) at h = ap {B = List (List ℕ)} (λ r. requester_at s at ∷ r) (requesters_first n m (at + 7) (omega arith))
