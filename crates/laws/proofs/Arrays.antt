-- Laws of arrays: of structs, filled from the front or from the back, and mapped in place.
-- Assumes nothing.
use Rattle.std.proofs.Common.{ℕ, zero, suc, ◌+◌, ◌-◌, ◌≤◌, ◌<◌, min, ◌≡◌, refl, sym, ap, ◌∙◌, List, [], ◌∷◌, ◌++◌, map, append_assoc, append-nil, add-one, add-zero, le_of_suc-le-suc, not-suc-le-zero, arith, length, get_or, take, drop, set, length-take, length-set, drop_of_length-le, drop-cons, take-suc, take_all, drop-set-lt, get_or-set_same, get_or-take, get_or-append-add, get_or-drop}
use Rattle.std.proofs.Math.Option.{none, some}
use Rattle.std.proofs.Math.ListN.{get_elem?, length-map}
use Rattle.std.proofs.Math.Seq.{take-set-lt, set_at, get_or_at, append_snoc}
use Rattle.std.proofs.lemmas.List.{map-append, take_min as taken}

-- ---- structs: what owning an array of them tells of its length
pub length_mapped : (X Y : Type 0) (f : X → Y) (l : List X) (n : ℕ) → length (map f l) ≡ n → length l ≡ n
length_mapped X Y f l n e = sym (length-map l f) ∙ e

-- ---- an array whose first n places are filled, and whose others are blank
module _ {A : Type 0} (done blank : List A) (d : A) (n : ℕ) (e : length done ≡ n) (h : n < length blank) where
  pub fill_next : (x : A) → set (done ++ drop n blank) n x ≡ (done ++ (x ∷ [])) ++ drop (suc n) blank
  fill_next x = rw (drop-cons blank n d h) (set_at done _ _ x n e ∙ sym (append_snoc done x (drop (suc n) blank)))

  pub leave_next : done ++ drop n blank ≡ (done ++ (get_or blank n d ∷ [])) ++ drop (suc n) blank
  leave_next = rw (drop-cons blank n d h) (sym (append_snoc done (get_or blank n d) (drop (suc n) blank)))

  pub next_blank : get_or (done ++ drop n blank) n d ≡ get_or blank n d
  next_blank =
      let z : n ≡ length done + 0 = omega (arith, e) in
      ap (λ (k : ℕ). get_or (done ++ drop n blank) k d) z
      ∙ get_or-append-add done (drop n blank) 0 d
      ∙ get_or-drop n blank 0 d
      ∙ ap (λ (k : ℕ). get_or blank k d) (add-zero n)

-- ---- a loop that maps an array in place: the first i are mapped
module _ {A : Type 0} (f : A → A) (l : List A) where
  abbrev pub mapped : ℕ → List A
  mapped i = map f (take i l) ++ drop i l

  pub mapped_more : (xs : List A) (i : ℕ) (z : A) → i < length l → xs ≡ mapped i → set xs i (f (get_or xs i z)) ≡ mapped (i + 1)
  mapped_more xs i z h e =
      let p : List A = map f (take i l) in
      let lp : length p ≡ i = length-map (take i l) f ∙ length-take i l ∙ omega arith in
      let d = drop-cons l i z h in
      rw (e, d, get_or_at p (get_or l i z) (drop (suc i) l) z i lp, set_at p (get_or l i z) (drop (suc i) l) (f (get_or l i z)) i lp, add-one, take-suc l i z h, map-append f (take i l) (get_or l i z ∷ []))
      (sym (append_assoc p (f (get_or l i z) ∷ []) (drop (suc i) l)))

-- ---- the first places

-- what is left of the first n elements from i on, is the i-th and those behind it
pub take_next : {A : Type 0} (xs : List A) (d : A) (n i : ℕ) → i < n → i < length xs → drop i (take n xs) ≡ get_or xs i d ∷ drop (i + 1) (take n xs)
take_next xs d n i h k = rw add-one (drop-cons (take n xs) i d (omega (arith, length-take n xs)) ∙ rw (get_or-take n xs i d h))

-- a count past the end counts as the end
pub take_min : {A : Type 0} (n m : ℕ) (l : List A) → length l ≡ m → take (min n m) l ≡ take n l
take_min n m l e = ap (λ (k : ℕ). take (min n k) l) (sym e) ∙ taken n l

module _ {A : Type 0} (l : List A) (m end : ℕ) (e : length l ≡ m) (n : ℕ) (h : end ≡ min n m) where
  pub take_within : take end l ≡ take n l
  take_within = ap (λ (k : ℕ). take k l) h ∙ take_min n m l e

  pub length-within : length (take end l) ≡ end
  length-within = length-take end l ∙ omega arith

-- an array that is filled from the front of a blank one with what f makes of a list's (a column of an array of structs)

module _ {A B : Type 0} (f : A → B) (l : List A) (blank xs : List B) where
  pub column_next : (i : ℕ) (d : A) → i < length l → i < length blank → xs ≡ map f (take i l) ++ drop i blank
      → set xs i (f (get_or l i d)) ≡ map f (take (i + 1) l) ++ drop (i + 1) blank
  column_next i d h k e =
      let n : length (map f (take i l)) ≡ i = length-map (take i l) f ∙ length-take i l ∙ omega arith in
      rw (e, add-one, take-suc l i d h, map-append f (take i l) (get_or l i d ∷ []))
      (fill_next (map f (take i l)) blank (f d) i n k (f (get_or l i d)))

  pub column_all : (n : ℕ) → length l ≡ n → length blank ≡ n → xs ≡ map f (take n l) ++ drop n blank → xs ≡ map f l
  column_all n p q e = e ∙ rw (take_all n l (omega arith), drop_of_length-le blank {i = n} (omega arith)) (append-nil (map f l))

-- ---- an array of m places that is filled from the back with what f makes of another's first end: the places from i on are filled
pub record FillingBack {A B : Type 0} (f : A → B) (from : List A) (to : List B) (m end i : ℕ) : Type 0 where
  pub begun : i ≤ end
  pub few : end ≤ m
  pub source : length from ≡ m
  pub places : length to ≡ m
  pub filled : drop i (take end to) ≡ map f (drop i (take end from))

module _ {A B : Type 0} {f : A → B} {from : List A} {to : List B} {m end i : ℕ} (F : FillingBack f from to m end i) where
  pub fill_back : 0 < i → (d : A) (y : B) → y ≡ f (get_or from (i - 1) d) → FillingBack f from (set to (i - 1) y) m end (i - 1)
  fill_back h d y q =
      let j : ℕ = i - 1 in
      let next : i ≡ j + 1 = omega arith in
      let l : j < end = omega (arith, F.begun) in
      let k : j < length from = omega (arith, F.few, F.source) in
      let s : j < length to = omega (arith, F.few, F.places) in
      record {
        begun = omega arith;
        few = F.few;
        source = F.source;
        places = length-set to j y ∙ F.places;
        filled = rw (take_next (set to j y) y end j l (omega (arith, length-set to j y)), get_or-set_same to j y y s, take-set-lt end to j y l, drop-set-lt (j + 1) (take end to) j y (omega arith), take_next from d end j l k, rw next at F.filled, q);
      }

  pub fill_end : i ≤ 0 → (n : ℕ) → end ≡ min n m → take end to ≡ map f (take n from)
  fill_end h n e =
      let z : i ≡ 0 = omega arith in
      rw z at F.filled ∙ ap (map f) (take_within from m end F.source n e)

-- ---- one place

module _ {A : Type 0} where
  pub element-at : (l : List A) (i : ℕ) (d : A) → i < length l → get_elem? l i ≡ some (get_or l i d)
  element-at [] i d h = absurd (not-suc-le-zero h)
  element-at (x ∷ xs) zero d h = refl
  element-at (x ∷ xs) (suc i) d h = element-at xs i d (le_of_suc-le-suc h)

  pub element-past : (l : List A) (i : ℕ) → length l ≤ i → get_elem? l i ≡ none
  element-past [] i h = refl
  element-past (x ∷ xs) zero h = absurd (not-suc-le-zero h)
  element-past (x ∷ xs) (suc i) h = element-past xs i (le_of_suc-le-suc h)
