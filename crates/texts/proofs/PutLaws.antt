-- Laws of texts put one behind the other: parts that are written so are the whole, written at once.
-- Assumes nothing.
use Rattle.std.proofs.Common.{refl, Result, Ok, Err, IsOk, OnOk, OnErr, ◌↔◌, ℕ, ◌+◌, ◌*◌, ◌≤◌, ◌<◌, ◌≡◌, sym, ap, ◌∙◌, List, [], ◌∷◌, ◌++◌, append_assoc, append-nil, length, get_or, take, length-append, take-suc, add-one, arith, le-leb}
use Rattle.std.proofs.lemmas.Bool.{lt-leb}
use Rattle.arrayvec.specs.ArrayVec.{ArrayVec}
use Rattle.laws.specs.Choice.{when◌then◌else◌}
use Rattle.laws.specs.Buffers.{pieces}
use Rattle.laws.proofs.Pieces.{pieces_snoc}
use Rattle.texts.specs.Text.{Puts, PutsWhole, put_whole}

module _ (room : ℕ) (o s : List ℕ) where
  pub put-fits : length s + length o ≤ room → put_whole room o s ≡ s ++ o
  unfolding put_whole when◌then◌else◌
  put-fits h = rw (le-leb (length s + length o) room h)

  pub put-short : room < length s + length o → put_whole room o s ≡ s
  unfolding put_whole when◌then◌else◌
  put-short h = rw (lt-leb (length s + length o) room h)

-- what the library's vector says of octets that it was to take, all or nothing
pub put_tried : {E : Type 0} (room : ℕ) (o : List ℕ) (s y : ArrayVec ℕ) (r : Result (Unit {0}) E) → IsOk r ↔ (length s.items + length o ≤ room)
    → OnOk r (y.items ≡ s.items ++ o) → OnErr r (y ≡ s) → y.items ≡ put_whole room o s.items
put_tried room o s y (Ok u) fits ok err = ok ∙ sym (put-fits room o s.items (fits.0 refl))
put_tried {E} room o s y (Err e) fits ok err =
    let no : length s.items + length o ≤ room → ⊥ = λ h. let z : IsOk {T = Unit {0}} {E = E} (Err e) = fits.1 h in cc in
    ap (λ (v : ArrayVec ℕ). v.items) err ∙ sym (put-short room o s.items (omega (arith, no)))

-- two parts, one behind the other, where both fit
pub put_two : (room : ℕ) (o₁ o₂ s y z : List ℕ) → length s + length (o₁ ++ o₂) ≤ room
    → y ≡ put_whole room o₁ s → z ≡ put_whole room o₂ y → z ≡ put_whole room (o₁ ++ o₂) s
put_two room o₁ o₂ s y z h first second =
    let l = length-append o₁ o₂ in
    let ey : y ≡ s ++ o₁ = first ∙ put-fits room o₁ s (omega arith) in
    let ly : length y ≡ length s + length o₁ = ap length ey ∙ length-append s o₁ in
    second ∙ put-fits room o₂ y (omega arith) ∙ ap (λ (x : List ℕ). x ++ o₂) ey ∙ append_assoc s o₁ o₂ ∙ sym (put-fits room (o₁ ++ o₂) s h)

-- ---- parts that are held to their text where there is room for it

module _ {room : ℕ} {o s y : List ℕ} where
  -- a part that is written all or nothing
  pub one : y ≡ put_whole room o s → Puts room (length o) o s y
  one e = record { short = omega arith; does = λ h. e ∙ put-fits room o s h }

  -- and of which it is known how long it is at most
  pub short : {most : ℕ} → PutsWhole room most o s y → Puts room most o s y
  short p = record { short = p.short; does = λ h. p.does ∙ put-fits room o s h }

  pub at_most : {most : ℕ} (more : ℕ) → most ≤ more → Puts room most o s y → Puts room more o s y
  at_most more h p = record { short = omega (arith, p.short); does = p.does }

pub nothing : (room : ℕ) (s : List ℕ) → Puts room 0 [] s s
nothing room s = record { short = omega arith; does = λ h. sym (append-nil s) }

pub both : {room : ℕ} {o₁ o₂ s y z : List ℕ} {most₁ most₂ : ℕ} → Puts room most₁ o₁ s y → Puts room most₂ o₂ y z → Puts room (most₁ + most₂) (o₁ ++ o₂) s z
both {room} {o₁} {o₂} {s} {y} {z} p q = record {
  short = omega (arith, length-append o₁ o₂, p.short, q.short);
  does = λ h.
      let l = length-append o₁ o₂ in
      let h₁ : length s + length o₁ ≤ room = omega arith in
      let e = p.does h₁ in
      let h₂ : length y + length o₂ ≤ room = omega (arith, ap length e, length-append s o₁) in
      q.does h₂ ∙ ap (λ (x : List ℕ). x ++ o₂) e ∙ append_assoc s o₁ o₂;
}

-- ---- the invariant of a loop that writes some pieces one behind the other: the first i are written

pub record Lining {P : Type 0} (room : ℕ) (f : P → List ℕ) (most : ℕ) (ps : List P) (s y : List ℕ) (i : ℕ) : Type 0 where
  pub there : i ≤ length ps
  pub puts : Puts room (most * i) (pieces (λ (k : ℕ) (p : P). f p) 0 (take i ps)) s y

pub lining_start : {P : Type 0} (room : ℕ) (f : P → List ℕ) (most : ℕ) (ps : List P) (s : List ℕ) → Lining room f most ps s s 0
unfolding pieces
lining_start room f most ps s = record { there = omega arith; puts = at_most (most * 0) (omega arith) (nothing room s) }

module _ {P : Type 0} {room : ℕ} {f : P → List ℕ} {most : ℕ} {ps : List P} {s y : List ℕ} {i : ℕ} (l : Lining room f most ps s y i) where
  pub lining_next : (d : P) {z : List ℕ} → i < length ps → Puts room most (f (get_or ps i d)) y z → Lining room f most ps s z (i + 1)
  lining_next d h q =
      let taken : take (i + 1) ps ≡ take i ps ++ (get_or ps i d ∷ []) = rw add-one (take-suc ps i d h) in
      let all : pieces (λ (k : ℕ) (p : P). f p) 0 (take (i + 1) ps) ≡ pieces (λ (k : ℕ) (p : P). f p) 0 (take i ps) ++ f (get_or ps i d)
      = ap (pieces (λ (k : ℕ) (p : P). f p) 0) taken ∙ pieces_snoc f 0 (take i ps) (get_or ps i d) in
      record { there = omega arith; puts = rw all (at_most (most * (i + 1)) (omega arith) (both l.puts q)) }

-- ---- into a text that was empty, and has room for the most

pub whole : {room most : ℕ} {o s y : List ℕ} → s ≡ [] → Puts room most o s y → most ≤ room → (y ≡ o) × (length y ≤ most)
whole {o = o} empty p room =
    let e = p.does (omega (arith, ap length empty, p.short)) ∙ ap (λ (x : List ℕ). x ++ o) empty in
    (e, omega (arith, p.short, ap length e))
