-- Laws of numbers as text.
-- Assumes nothing.
use Rattle.std.proofs.Common.{ℕ, zero, suc, ◌+◌, ◌-◌, ◌/◌, ◌%◌, ◌^◌, ◌≤◌, ◌<◌, ◌≡◌, sym, ◌∙◌, ap, true, false, ◌&&◌, List, [], ◌∷◌, ◌++◌, arith, div-lt_iff_lt-mul, pow-suc, eqb, leb, length, drop, set, length-append, length-set, drop-cons, get_or-set_same, drop-set-lt, eq-eqb, le-leb}
use Rattle.laws.specs.Choice.{when◌then◌else◌}
use Rattle.laws.proofs.Choice.{either}
use Rattle.texts.specs.Text.{digit, spell, decimal, named, PutsWhole, put_whole}

-- the digit in front of a text that is spelt from its end, place by place
pub spelt : {A : Type 0} (text : List A) (i : ℕ) (d z : A) → 0 < i → i ≤ length text → drop (i - 1) (set text (i - 1) d) ≡ d ∷ drop i text
spelt text i d z p h =
    let j : suc (i - 1) ≡ i = omega arith in
    drop-cons (set text (i - 1) d) (i - 1) z (omega (arith, length-set text (i - 1) d))
    ∙ rw (get_or-set_same text (i - 1) d z (omega arith), j, drop-set-lt i text (i - 1) d (omega arith))

module _ (i least n : ℕ) (text : List ℕ) (p : 0 < i) where
  j : i ≡ suc (i - 1)
  j = omega arith

  pub spell-first : (eqb (n / 10) 0 && leb least 1) ≡ true → spell i least n text ≡ digit (n % 10) ∷ text
  unfolding spell when◌then◌else◌
  spell-first e = rw (j, e)

  pub spell_next : (eqb (n / 10) 0 && leb least 1) ≡ false → spell i least n text ≡ spell (i - 1) (least - 1) (n / 10) (digit (n % 10) ∷ text)
  unfolding spell when◌then◌else◌
  spell_next e = ap (λ (k : ℕ). spell k least n text) j ∙ rw e

-- the invariant of the loop that spells `whole` from the end of an array of 20: i places are left, for the digits of rest
pub record Spelling (whole text : List ℕ) (i least rest : ℕ) : Type 0 where
  pub places : length text ≡ 20
  pub within : i ≤ 20
  pub same : spell i least rest (drop i text) ≡ whole

module _ {whole text : List ℕ} {i least rest : ℕ} (p : Spelling whole text i least rest) (some : 0 < i) where
  pub spelling_last : (eqb (rest / 10) 0 && leb least 1) ≡ true → drop (i - 1) (set text (i - 1) (digit (rest % 10))) ≡ whole
  spelling_last e =
      spelt text i _ 0 some (omega (arith, p.places, p.within)) ∙ sym (spell-first i least rest (drop i text) some e) ∙ p.same

  pub spelling_next : (eqb (rest / 10) 0 && leb least 1) ≡ false → Spelling whole (set text (i - 1) (digit (rest % 10))) (i - 1) (least - 1) (rest / 10)
  spelling_next e = record {
    places = length-set text (i - 1) _ ∙ p.places;
    within = omega (arith, p.within);
    same = rw (spelt text i (digit (rest % 10)) 0 some (omega (arith, p.places, p.within))) (sym (spell_next i least rest (drop i text) some e) ∙ p.same);
  }

pub spelling_all : {whole text : List ℕ} {i least rest : ℕ} → Spelling whole text i least rest → i ≡ 0 → text ≡ whole
unfolding spell
spelling_all p e = rw e at p.same

-- a number below 10 ^ k has at most k digits, unless more are asked for
spell-length : (fuel k least n : ℕ) (text : List ℕ) → n < 10 ^ suc k → least ≤ suc k → length (spell fuel least n text) ≤ suc k + length text
unfolding spell
spell-length zero k least n text small few = omega arith
spell-length (suc fuel) zero least n text small few =
    let none : n / 10 ≡ 0 = omega arith in
    either (λ (l : List ℕ). length l ≤ 1 + length text) _ _ _ (λ _. omega arith)
    (λ e. let t : (eqb (n / 10) 0 && leb least 1) ≡ true = rw (eq-eqb (n / 10) 0 none, le-leb least 1 few) in let z : ◌≡◌ {A = ℕ} 0 1 = cc in omega arith)
spell-length (suc fuel) (suc k) least n text small few =
    either (λ (l : List ℕ). length l ≤ suc (suc k) + length text) _ _ _ (λ _. omega arith)
    (λ _. omega (arith, spell-length fuel k (least - 1) (n / 10) (digit (n % 10) ∷ text) ((div-lt_iff_lt-mul (omega arith)).1 (rw (pow-suc 10 (suc k)) at small)) (omega arith)))

pub decimal-length : (k least n : ℕ) → n < 10 ^ k → 0 < k → least ≤ k → length (decimal least n) ≤ k
unfolding decimal
decimal-length zero least n small some few = absurd (omega arith)
decimal-length (suc k) least n small some few = omega (arith, spell-length 20 k least n [] small few)

-- a number behind a name, written
pub named_put : (room k n : ℕ) (name s y : List ℕ) → n < 10 ^ k → 0 < k → y ≡ put_whole room (name ++ decimal 1 n) s → PutsWhole room (length name + k) (named name n) s y
unfolding named
named_put room k n name s y small some e =
    record { short = omega (arith, length-append name (decimal 1 n), decimal-length k 1 n small some (omega arith)); does = e }
