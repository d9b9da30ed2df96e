-- Laws of buffers: octets at their front, parts that are lent on, and pieces that are written one behind the other.
-- Assumes nothing.
use Rattle.std.proofs.Common.{◌≡◌, refl, sym, ap, ◌∙◌, List, [], ◌++◌, append_assoc, append-nil, ℕ, ◌+◌, ◌-◌, ◌≤◌, ◌<◌, arith, length, take, drop, length-append, length-drop, take-append-drop, drop-drop, take_at, drop_at, length-take-le, take_all, le-leb}
use Rattle.std.proofs.Math.Seq.{drop-append-le, drop-length}
use Rattle.std.proofs.lemmas.Bool.{lt-leb}
use Rattle.laws.proofs.Older.{put_mid}
use Rattle.laws.specs.Choice.{when◌then◌else◌}
use Rattle.laws.specs.Buffers.{onto, WrittenBuffer, wrote, put_front, put_at}

pub length-onto : {A : Type 0} (o s : List A) → length o ≤ length s → length (onto o s) ≡ length s
length-onto o s h = length-append o (drop (length o) s) ∙ rw (length-drop (length o) s) (omega arith)

-- the one law of a part that is lent: xs has h at its front and else what s has, the part is its k elements from a on, behind h,
-- and the callee puts o at the part's front: then the whole has h and o at its front, and else what s has
module _ {A : Type 0} (h o s xs ys : List A) (a k : ℕ) (at : length h ≡ a) (is : xs ≡ onto h s) (ends : a + k ≤ length s) where
  pub lent_length : length (take k (drop a xs)) ≡ k
  lent_length =
      let l : length xs ≡ length s = ap length is ∙ length-onto h s (omega arith) in
      length-take-le k (drop a xs) (rw (length-drop a xs, l) (omega arith))

  pub lent : length o ≤ k → ys ≡ onto o (take k (drop a xs)) → put_mid a k xs ys ≡ onto (h ++ o) s
  lent fits does =
      let n : ℕ = length o in
      let r : List A = drop a s in
      let t : take a xs ≡ h = ap (take a) is ∙ take_at h (drop (length h) s) a at in
      let d : drop a xs ≡ r = ap (drop a) is ∙ drop_at h (drop (length h) s) a at ∙ rw at in
      let lr : length r ≡ length s - a = length-drop a s in
      let lt : length (take k r) ≡ k = length-take-le k r (omega arith) in
      let lh : a + n ≡ length (h ++ o) = omega (arith, length-append h o) in
      rw (does, t, d)
      (ap (λ (x : List A). h ++ x)
      (append_assoc o (drop n (take k r)) (drop k r)
      ∙ ap (λ (x : List A). o ++ x)
      (sym (drop-append-le n (take k r) (drop k r) (omega arith))
      ∙ ap (drop n) (take-append-drop k r)
      ∙ drop-drop n a s))
      ∙ sym (append_assoc h o (drop (a + n) s))
      ∙ ap (λ (j : ℕ). (h ++ o) ++ drop j s) lh)

-- the same where all that lies behind the first a elements is lent
pub lent_tail : {A : Type 0} (o s ys : List A) (a : ℕ) → a ≤ length s → ys ≡ onto o (take (length s - a) (drop a s)) → put_mid a (length s - a) s ys ≡ take a s ++ onto o (drop a s)
lent_tail {A} o s ys a h does =
    let d : length (drop a s) ≡ length s - a = length-drop a s in
    let j : a + (length s - a) ≡ length s = omega arith in
    rw (does, take_all (length s - a) (drop a s) (omega arith), drop-drop (length s - a) a s, j, drop-length s, append-nil (onto o (drop a s)))

-- what a copy of known octets leaves
pub copied : (o src s y : List ℕ) → src ≡ o → y ≡ onto src s → y ≡ onto o s
copied o src s y e does = does ∙ ap (λ (x : List ℕ). onto x s) e

-- ---- a writer that writes all or nothing

module _ (o s : List ℕ) where
  pub put_front-fits : length o ≤ length s → put_front o s ≡ wrote (length o) (onto o s)
  unfolding put_front when◌then◌else◌
  put_front-fits h = rw (le-leb (length o) (length s) h)

  pub put_front-short : length s < length o → put_front o s ≡ wrote 0 s
  unfolding put_front when◌then◌else◌
  put_front-short h = rw (lt-leb (length o) (length s) h)

module _ (o : List ℕ) (at : ℕ) (s : List ℕ) where
  pub put_at-fits : at + length o ≤ length s → put_at o at s ≡ wrote (at + length o) (take at s ++ onto o (drop at s))
  unfolding put_at when◌then◌else◌
  put_at-fits h = rw (le-leb (at + length o) (length s) h)

-- ---- the invariant of a run of writers that write `whole` over s: buf has the octets before `at`, `rest` is to come
pub record Putting (whole s buf : List ℕ) (at : ℕ) (rest : List ℕ) : Type 0 where
  pub head : List ℕ
  pub fits : length whole ≤ length s
  pub ends : length head ≡ at
  pub front : buf ≡ onto head s
  pub split : whole ≡ head ++ rest

pub putting_start : (whole s : List ℕ) → length whole ≤ length s → Putting whole s s 0 whole
putting_start whole s fits = record { head = []; fits = fits; ends = refl; front = refl; split = refl }

module _ {whole s buf : List ℕ} {at : ℕ} {rest : List ℕ} (p : Putting whole s buf at rest) where
  pub putting_room : at + length rest ≤ length s
  putting_room = omega (arith, p.fits, p.ends, ap length p.split, length-append p.head rest)

  pub putting_length : length buf ≡ length s
  putting_length = ap length p.front ∙ length-onto p.head s (omega (arith, putting_room, p.ends))

  -- the part that is lent has the room that is left
  pub putting_part : length (take (length buf - at) (drop at buf)) ≡ length s - at
  putting_part =
      let l = putting_length in
      let m = putting_room in
      lent_length p.head [] s buf [] at (length buf - at) p.ends p.front (omega arith) ∙ omega arith

  module _ (o r : List ℕ) (e : rest ≡ o ++ r) where
    rest-length : length rest ≡ length o + length r
    rest-length = ap length e ∙ length-append o r

    pub putting_fits : length o ≤ length (take (length buf - at) (drop at buf))
    putting_fits = omega (arith, putting_part, putting_room, rest-length)

    pub putting_within : at + length o ≤ length s
    putting_within = omega (arith, putting_room, rest-length)

    -- a writer of o at the front of the part that was lent
    pub putting_next : (y : List ℕ) → y ≡ onto o (take (length buf - at) (drop at buf)) → Putting whole s (put_mid at (length buf - at) buf y) (at + length o) r
    putting_next y does =
        let l = putting_length in
        let m = putting_room in
        let n = rest-length in
        record {
          head = p.head ++ o;
          fits = p.fits;
          ends = length-append p.head o ∙ omega (arith, p.ends);
          front = lent p.head o s buf y at (length buf - at) p.ends p.front (omega arith) (omega arith) does;
          split = p.split ∙ ap (λ (x : List ℕ). p.head ++ x) e ∙ sym (append_assoc p.head o r);
        }

    -- a writer of o behind the first `at` octets
    pub putting_at : (n : ℕ) (y : List ℕ) → wrote n y ≡ put_at o at buf → Putting whole s y n r
    putting_at n y does =
        let is = does ∙ put_at-fits o at buf (rw putting_length putting_within) in
        let en : n ≡ at + length o = ap (λ (w : WrittenBuffer). w.answer) is in
        let within : at ≤ length buf = omega (arith, putting_length, putting_room) in
        let ey : y ≡ put_mid at (length buf - at) buf (onto o (take (length buf - at) (drop at buf))) = ap (λ (w : WrittenBuffer). w.octets) is ∙ sym (lent_tail o buf _ at within refl) in
        rw (en, ey) (putting_next _ refl)

  whole-head : rest ≡ [] → p.head ≡ whole
  whole-head e = sym (p.split ∙ ap (λ (x : List ℕ). p.head ++ x) e ∙ append-nil p.head)

  pub putting_done : rest ≡ [] → buf ≡ onto whole s
  putting_done e = p.front ∙ ap (λ (x : List ℕ). onto x s) (whole-head e)

  pub putting_end : rest ≡ [] → at ≡ length whole
  putting_end e = sym p.ends ∙ ap length (whole-head e)
