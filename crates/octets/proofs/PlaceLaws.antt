-- Laws of the octets at a position.
-- Assumes nothing.
use Rattle.std.proofs.Common.{ℕ, zero, suc, ◌+◌, ◌≤◌, ◌<◌, min, ◌≡◌, refl, sym, ap, ◌∙◌, Bool, true, false, List, [], ◌∷◌, ◌++◌, append-nil, add-one, add-zero, arith, leb, length, get_or, take, drop, set, length-take, length-drop, drop_of_length-le, drop-cons, get_or-take, get_or-drop, leb-true, leb-false}
use Rattle.std.proofs.Math.ListN.{get_or-eq_default}
use Rattle.laws.specs.Buffers.{onto}
use Rattle.laws.proofs.Arrays.{fill_next}
use Rattle.laws.proofs.Parts.{stands-first, stands-behind}
use Rattle.octets.specs.Fields.{octets_at}

module _ (s : List ℕ) where
  pub octets-length : (n at : ℕ) → length (octets_at s at n) ≡ n
  unfolding octets_at
  octets-length zero at = refl
  octets-length (suc n) at = ap suc (octets-length n (at + 1))

  -- those that do not pass the end
  pub octets_part : (n at : ℕ) → at + n ≤ length s → octets_at s at n ≡ take n (drop at s)
  unfolding octets_at
  octets_part zero at h = refl
  octets_part (suc n) at h =
      ap {B = List ℕ} (λ r. get_or s at 0 ∷ r) (octets_part n (at + 1) (omega arith) ∙ ap (λ (k : ℕ). take n (drop k s)) (add-one at))
      ∙ sym (ap (take (suc n)) (drop-cons s at 0 (omega arith)))

  all_stand : (o r : List ℕ) (at : ℕ) → drop at s ≡ o ++ r → octets_at s at (length o) ≡ o
  unfolding octets_at
  all_stand [] r at h = refl
  all_stand (x ∷ o) r at h =
      let first : get_or s at 0 ≡ x = stands-first s at (x ∷ o) r h 0 in
      let rest : octets_at s (at + 1) (length o) ≡ o = all_stand o r (at + 1) (stands-behind s at (x ∷ []) (o ++ r) h (at + 1) refl) in
      rw (first, rest)

  -- those that stand there
  pub octets_stand : (at n : ℕ) (o r : List ℕ) → length o ≡ n → drop at s ≡ o ++ r → octets_at s at n ≡ o
  octets_stand at n o r e h = ap (octets_at s at) (sym e) ∙ all_stand o r at h

  -- those of a part are those of the whole
  pub octet_within : (m at k : ℕ) → k < m → get_or (take m (drop at s)) k 0 ≡ get_or s (at + k) 0
  octet_within m at k h = get_or-take m (drop at s) k 0 h ∙ get_or-drop at s k 0

  pub octets-within : (m at n k : ℕ) → k + n ≤ m → octets_at (take m (drop at s)) k n ≡ octets_at s (at + k) n
  unfolding octets_at
  octets-within m at zero k h = refl
  octets-within m at (suc n) k h =
      let e : at + (k + 1) ≡ at + k + 1 = omega arith in
      rw (octet_within m at k (omega arith), octets-within m at n (k + 1) (omega arith), e)

  -- past the end every octet is 0, wherever
  pub octets-past : (n a b : ℕ) → length s ≤ a → length s ≤ b → octets_at s a n ≡ octets_at s b n
  unfolding octets_at
  octets-past zero a b ha hb = refl
  octets-past (suc n) a b ha hb =
      let t : octets_at s (a + 1) n ≡ octets_at s (b + 1) n = octets-past n (a + 1) (b + 1) (omega arith) (omega arith) in
      rw (get_or-eq_default s 0 {n = a} ha, get_or-eq_default s 0 {n = b} hb, t)

  pub octets-from : (n at from : ℕ) → from ≡ min at (length s) → octets_at s from n ≡ octets_at s at n
  octets-from n at from e = go (leb at (length s)) refl
    where
      go : (b : Bool) → leb at (length s) ≡ b → octets_at s from n ≡ octets_at s at n
      go true t =
          let p = leb-true at (length s) t in
          let q : from ≡ at = omega arith in
          ap (λ (k : ℕ). octets_at s k n) q
      go false t =
          let p = leb-false at (length s) t in
          octets-past n from at (omega arith) (omega arith)

  octets_snoc : (n at : ℕ) → octets_at s at (suc n) ≡ octets_at s at n ++ (get_or s (at + n) 0 ∷ [])
  unfolding octets_at
  octets_snoc zero at = ap {B = List ℕ} (λ (k : ℕ). get_or s k 0 ∷ []) (sym (add-zero at))
  octets_snoc (suc n) at =
      let e : at + 1 + n ≡ at + suc n = omega arith in
      ap {B = List ℕ} (λ r. get_or s at 0 ∷ r) (octets_snoc n (at + 1) ∙ ap (λ (k : ℕ). octets_at s (at + 1) n ++ (get_or s k 0 ∷ [])) e)

  -- the loop that reads them: the first i are read
  module _ (blank out : List ℕ) (i at : ℕ) (is : out ≡ octets_at s at i ++ drop i blank) where
    pub octets_next : (x : ℕ) → i < length blank → x ≡ get_or s (at + i) 0 → set out i x ≡ octets_at s at (i + 1) ++ drop (i + 1) blank
    octets_next x h v =
        rw (is, v, add-one, octets_snoc i at) (fill_next (octets_at s at i) blank 0 i (octets-length i at) h (get_or s (at + i) 0))

  -- a part that fills an array, copied into it
  pub octets_copied : (out y : List ℕ) (at from k : ℕ) → from ≡ min at (length s) → k ≡ length out → from + length out ≤ length s
      → y ≡ onto (take k (drop from s)) out → y ≡ octets_at s at (length out)
  octets_copied out y at from k e m h does =
      let size : length (take k (drop from s)) ≡ k = length-take k (drop from s) ∙ omega (arith, length-drop from s) in
      does
      ∙ rw (drop_of_length-le out {i = length (take k (drop from s))} (omega (arith, size)), m) (append-nil (take (length out) (drop from s)))
      ∙ sym (octets_part (length out) from h)
      ∙ octets-from (length out) at from e

-- what the check may use of the code that reads them
pub ruleset reads = (octets-from, octets_copied)
