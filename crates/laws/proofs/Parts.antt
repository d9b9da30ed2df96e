-- Laws of what stands at a position of a list, said as `drop at s ≡ o ++ r`: o stands there, and r behind it.
-- Assumes nothing.
use Rattle.std.proofs.Common.{ℕ, zero, suc, ◌+◌, ◌≤◌, ◌<◌, ◌≡◌, refl, sym, ap, ◌∙◌, List, [], ◌∷◌, ◌++◌, length, get_or, take, drop, length-append, length-drop, get_or-drop, drop-drop, drop-cons, take_all, add-zero, arith}
use Rattle.std.proofs.Math.Seq.{drop-append_seam}

module _ {A : Type 0} (s : List A) (at : ℕ) (o r : List A) (h : drop at s ≡ o ++ r) where
  pub stands_at : (k : ℕ) (d : A) → get_or s (at + k) d ≡ get_or (o ++ r) k d
  stands_at k d = sym (get_or-drop at s k d) ∙ ap (λ (l : List A). get_or l k d) h

  pub stands-first : (d : A) → get_or s at d ≡ get_or (o ++ r) 0 d
  stands-first d = ap (λ (k : ℕ). get_or s k d) (sym (add-zero at)) ∙ stands_at 0 d

  pub stands-length : 0 < length o → length s ≡ at + length o + length r
  stands-length p = omega (arith, length-drop at s, ap length h, length-append o r)

  pub stands-behind : (n : ℕ) → n ≡ at + length o → drop n s ≡ r
  stands-behind n e = ap (λ (k : ℕ). drop k s) e ∙ sym (drop-drop (length o) at s) ∙ ap (drop (length o)) h ∙ drop-append_seam o r

-- ---- a part and a whole list of numbers, place by place

unfoldable pub spelt : ℕ → ℕ → List ℕ → ℕ → List ℕ
spelt zero k s at = []
spelt (suc n) k s at = get_or s (at + k) 0 ∷ spelt n (k + 1) s at

part_spelt : (n k : ℕ) (s : List ℕ) (at : ℕ) → at + k + n ≤ length s → take n (drop (at + k) s) ≡ spelt n k s at
unfolding spelt
part_spelt zero k s at h = refl
part_spelt (suc n) k s at h =
    let e : suc (at + k) ≡ at + (k + 1) = omega arith in
    ap (take (suc n)) (drop-cons s (at + k) 0 (omega arith))
    ∙ ap (λ (r : List ℕ). get_or s (at + k) 0 ∷ r) (ap (λ (j : ℕ). take n (drop j s)) e ∙ part_spelt n (k + 1) s at (omega arith))

pub spelt_all : (n : ℕ) (s : List ℕ) → length s ≡ n → spelt n 0 s 0 ≡ s
spelt_all n s h = sym (part_spelt n 0 s 0 (omega arith)) ∙ take_all n s (omega arith)
