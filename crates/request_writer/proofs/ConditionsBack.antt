-- The conditions that were written are read back.
-- Assumes nothing.
use Rattle.std.proofs.Common.{ℕ, zero, suc, ◌+◌, ◌-◌, ◌≤◌, ◌<◌, ◌≡◌, refl, sym, ap, ◌∙◌, Bool, true, false, List, [], ◌∷◌, ◌++◌, append_assoc, length, get_or, take, drop, set, length-append, get_or-take, length-take-le, eqb, eq-eqb, ne_eqb, add-zero, add_assoc, arith}
use Rattle.std.proofs.Math.ListN.{get_or-append}
use Rattle.std.proofs.lemmas.Bool.{eqb-false}
use Rattle.laws.specs.Choice.{when◌then◌else◌}
use Rattle.laws.specs.Buffers.{pieces}
use Rattle.laws.proofs.Choice.{either}
use Rattle.laws.proofs.Walk.{Rest, again, done, go_on, stop_end}
use Rattle.laws.proofs.Parts.{stands_at, stands-first, stands-behind}
use Rattle.laws.proofs.Arrays.{fill_next, leave_next, next_blank}
use Rattle.octets.specs.Refusals.{no_refusal}
use Rattle.octets.specs.Elements.{framed}
use Rattle.octets.proofs.ElementLaws.{piece_stands}
use Rattle.subelements.specs.declared.Condition.{Condition}
use Rattle.subelements.specs.Subelements.{tables, length_of, body_at, absent, no_filter, past_filter, past, whole_step, subelement_step, more_subelements, Subelements}
use Rattle.subelements.proofs.Bodies.{body_stands}
use Rattle.subelements.proofs.Tables.{no_row, no_length, length_small}
use Rattle.laws.specs.Members.{All, also}
use Rattle.request_writer.specs.Frames.{condition_length, condition_octets}
use Rattle.request_writer.specs.ReadBack.{read_condition, read_filter, written_conditions, EightOctets}

abbrev pub at_subelements : ℕ → ℕ → List Condition → Subelements
at_subelements at n f = record { refusal = no_refusal; at = at; count = n; filter = f }

-- ---- a condition that is written: the length of the table for its first octet, within its eight octets

module _ (ty id : ℕ) (c : Condition) where
  pub length-within : condition_length ty id c ≤ 8
  unfolding condition_length
  length-within = either (λ (n : ℕ). n ≤ 8) c.present _ _ (λ _. length_small ty id _) (λ _. omega arith)

  pub length_tabled : (condition_length ty id c ≡ 0 → ⊥) → length_of ty id (get_or c.octets 0 0) ≡ condition_length ty id c
  unfolding condition_length
  length_tabled =
      either (λ (n : ℕ). (n ≡ 0 → ⊥) → length_of ty id (get_or c.octets 0 0) ≡ n) c.present _ _ (λ _ _. refl) (λ _ z. absurd (z refl))

-- a type without a table has none
module _ (ty : ℕ) (h : tables ≤ ty) where
  no_condition : (c : Condition) (id : ℕ) → condition_octets ty id c ≡ []
  unfolding condition_octets condition_length when◌then◌else◌
  no_condition c id =
      rw (no_length ty id (get_or c.octets 0 0) (no_row ty id h))
      (either (λ (n : ℕ). (when eqb n 0 then [] else framed id (take n c.octets)) ≡ []) c.present 0 0 (λ _. refl) (λ _. refl))

  pub no_conditions : (cs : List Condition) (id : ℕ) → pieces (condition_octets ty) id cs ≡ []
  unfolding pieces
  no_conditions [] id = refl
  no_conditions (c ∷ cs) id = rw (no_condition c id, no_conditions cs (suc id))

blank_condition : (id : ℕ) → id < 5 → get_or no_filter id past_filter ≡ absent
blank_condition zero h = refl
blank_condition (suc zero) h = refl
blank_condition (suc (suc zero)) h = refl
blank_condition (suc (suc (suc zero))) h = refl
blank_condition (suc (suc (suc (suc zero)))) h = refl
blank_condition (suc (suc (suc (suc (suc n))))) h = absurd (omega arith)

-- ---- one step over a subelement of the table that stands at w.at, the first of its ID

module _ (s : List ℕ) (ty end : ℕ) (w : Subelements) (id : ℕ) (b r : List ℕ) (h : drop w.at s ≡ framed id b ++ r) (fits : w.at + 2 + length b ≤ end)
    (some : 0 < length b) (long : length_of ty id (get_or b 0 0) ≡ length b) (new : (get_or w.filter id past_filter).present ≡ false) where
  step_known : subelement_step s ty end w ≡ past w (w.at + 2 + length b) (set w.filter id (record { present = true; octets = body_at s (w.at + 2) (length b) }))
  unfolding subelement_step whole_step when◌then◌else◌
  step_known =
      rw (
        piece_stands s w.at end id b r h fits,
        ne_eqb (w.at + 2 + length b) 0 (λ z. omega (arith, z)),
        stands-first s w.at (framed id b) r h 0,
        stands_at s w.at (framed id b) r h 1 0,
        stands_at s w.at (framed id b) r h 2 0,
        get_or-append b r 0 0 some,
        long,
        ne_eqb (length b) 0 (λ z. omega (arith, z)),
        eq-eqb (length b) (length b) refl,
        new,
      )

-- ---- the conditions

module _ (s : List ℕ) (ty end : ℕ) (whole : Subelements) where
  abbrev Left : ℕ → ℕ → List Condition → Type 0
  Left at n f = Rest (more_subelements end) (subelement_step s ty end) whole (end - at) (at_subelements at n f)

  -- the walk behind the condition c of an ID
  one_back : (c : Condition) (front : List Condition) (at n id : ℕ) (r : List ℕ) → length front ≡ id → id < 5 → EightOctets c
      → drop at s ≡ condition_octets ty id c ++ r → at + length (condition_octets ty id c) ≤ end
      → Left at n (front ++ drop id no_filter)
      → Left (at + length (condition_octets ty id c)) (n + (when eqb (condition_length ty id c) 0 then 0 else 1)) ((front ++ (read_condition ty id c ∷ [])) ++ drop (suc id) no_filter)
  unfolding condition_octets read_condition when◌then◌else◌
  one_back c front at n id r e small eight h fits left = go (eqb (condition_length ty id c) 0) refl h fits
    where
      x : List ℕ
      x = c.octets

      m : ℕ
      m = condition_length ty id c

      go : (t : Bool) → eqb m 0 ≡ t → drop at s ≡ (when t then [] else framed id (take m x)) ++ r
          → at + length (when t then [] else framed id (take m x)) ≤ end
          → Left (at + length (when t then [] else framed id (take m x))) (n + (when t then 0 else 1))
          ((front ++ ((when t then absent else record { present = true; octets = body_at x 0 m }) ∷ [])) ++ drop (suc id) no_filter)
      go true q h fits =
          let p : at + 0 ≡ at = add-zero at in
          let q : n + 0 ≡ n = add-zero n in
          let filled : front ++ drop id no_filter ≡ (front ++ (absent ∷ [])) ++ drop (suc id) no_filter
          = leave_next front no_filter past_filter id e small ∙ rw (blank_condition id small) in
          rw (p, q, ← filled) left
      go false q h fits =
          let some = eqb-false m 0 q in
          let b : List ℕ = take m x in
          let f : List Condition = front ++ drop id no_filter in
          let lb : length b ≡ m = length-take-le m x (omega (arith, length-within ty id c)) in
          let p : at + 2 + length b ≡ at + length (framed id b) = omega arith in
          let tabled : length_of ty id (get_or b 0 0) ≡ length b = rw (lb, get_or-take m x 0 0 (omega arith)) (length_tabled ty id c some) in
          let blank : (get_or f id past_filter).present ≡ false = ap (λ (y : Condition). y.present) (next_blank front no_filter past_filter id e small ∙ blank_condition id small) in
          let o : body_at s (at + 2) (length b) ≡ body_at x 0 m = ap (body_at s (at + 2)) lb ∙ body_stands s (at + 2) m x r (stands-behind s at (id ∷ length b ∷ []) (b ++ r) h (at + 2) refl) (omega (arith, length-within ty id c)) in
          let filled : set f id (record { present = true; octets = body_at s (at + 2) (length b) }) ≡ (front ++ (record { present = true; octets = body_at x 0 m } ∷ [])) ++ drop (suc id) no_filter
          = rw o (fill_next front no_filter past_filter id e small _) in
          let stepped : subelement_step s ty end (at_subelements at n f) ≡ at_subelements (at + length (framed id b)) (n + 1) ((front ++ (record { present = true; octets = body_at x 0 m } ∷ [])) ++ drop (suc id) no_filter)
          = step_known s ty end (at_subelements at n f) id b r h (omega arith) (omega (arith, lb)) tabled blank ∙ rw (p, filled) in
          again _ left (go_on 0 at end refl (omega arith)) (omega arith) (sym stepped)

  pub conditions_back : (cs front : List Condition) (at n id : ℕ) (r : List ℕ) → All EightOctets cs → length front ≡ id → id + length cs ≡ 5
      → drop at s ≡ pieces (condition_octets ty) id cs ++ r → at + length (pieces (condition_octets ty) id cs) ≡ end
      → Left at n (front ++ drop id no_filter)
      → whole ≡ at_subelements end (n + written_conditions ty id cs) (front ++ read_filter ty id cs)
  unfolding pieces written_conditions read_filter
  conditions_back [] front at n id r eight e five h ends left =
      let p : at ≡ end = omega arith in
      let q : n + 0 ≡ n = add-zero n in
      let k : id ≡ 5 = omega arith in
      sym (done left (stop_end 0 at end refl (omega arith))) ∙ rw (p, q, k)
  conditions_back (c ∷ cs) front at n id r (also eight eights) e five h ends left =
      let o : List ℕ = condition_octets ty id c in
      let one : ℕ = when eqb (condition_length ty id c) 0 then 0 else 1 in
      let rest : List ℕ = pieces (condition_octets ty) (suc id) cs in
      let h₁ : drop at s ≡ o ++ (rest ++ r) = h ∙ append_assoc o rest r in
      let lo : length (o ++ rest) ≡ length o + length rest = length-append o rest in
      let l₁ = one_back c front at n id (rest ++ r) e (omega arith) eight h₁ (omega arith) left in
      let e₁ : length (front ++ (read_condition ty id c ∷ [])) ≡ suc id = length-append front (read_condition ty id c ∷ []) ∙ omega arith in
      conditions_back cs (front ++ (read_condition ty id c ∷ [])) (at + length o) (n + one) (suc id) r eights e₁ (omega arith)
      (stands-behind s at o (rest ++ r) h₁ (at + length o) refl) (omega arith) l₁
      ∙ rw (add_assoc n one (written_conditions ty (suc id) cs), append_assoc front (read_condition ty id c ∷ []) (read_filter ty (suc id) cs))
