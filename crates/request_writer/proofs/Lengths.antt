-- How long what is written is: an element at most 33 octets, a frame at most 267.
-- Assumes nothing.
use Rattle.std.proofs.Common.{ℕ, suc, ◌+◌, ◌*◌, ◌≤◌, ◌<◌, ◌≡◌, refl, ◌∙◌, Bool, true, false, List, [], ◌∷◌, length, get_or, take, length-append, length-take, eqb, leb, ltb, ne_eqb, leb-true, ltb-true, ltb-false, arith, zero-add}
use Rattle.std.proofs.Math.ListN.{get_or-eq_default}
use Rattle.std.proofs.lemmas.Bool.{eqb-false}
use Rattle.laws.specs.Choice.{when◌then◌else◌}
use Rattle.laws.specs.Buffers.{pieces}
use Rattle.laws.proofs.Choice.{either}
use Rattle.octets.specs.declared.numbers.Kind.{Kind}
use Rattle.octets.specs.declared.numbers.Kind.TheVariants.{Event, Diagnostic}
use Rattle.octets.specs.Elements.{framed}
use Rattle.subelements.specs.declared.Condition.{Condition}
use Rattle.subelements.specs.Subelements.{row_of, tables}
use Rattle.subelements.proofs.Tables.{every, every_at, no_row, length_most}
use Rattle.requests.specs.declared.Element.{Element}
use Rattle.laws.specs.Members.{All, also}
use Rattle.request_writer.specs.Frames.{condition_length, condition_octets, filter_octets, element_body, element_octets}
use Rattle.request_writer.specs.ReadBack.{ElementLengths}

-- ---- conditions

pub length-written : (ty id : ℕ) (c : Condition) → condition_length ty id c ≤ (row_of ty id).expanded
unfolding condition_length
length-written ty id c = either (λ (n : ℕ). n ≤ (row_of ty id).expanded) c.present _ _ (λ _. length_most ty id _) (λ _. omega arith)

-- the octets of all conditions of a type from an ID on, at most
abbrev rooms : List (List ℕ)
rooms = (28 ∷ 20 ∷ 12 ∷ 8 ∷ 5 ∷ 0 ∷ []) ∷ (27 ∷ 19 ∷ 13 ∷ 3 ∷ 0 ∷ 0 ∷ []) ∷ (12 ∷ 4 ∷ 0 ∷ 0 ∷ 0 ∷ 0 ∷ []) ∷ []

abbrev room : ℕ → ℕ → ℕ
room ty id = get_or (get_or rooms ty []) id 0

-- those of one ID
abbrev most : ℕ → ℕ
most n = when eqb n 0 then 0 else 2 + n

room_next : (ty id : ℕ) → id < 5 → most (row_of ty id).expanded + room ty (suc id) ≤ room ty id
unfolding when◌then◌else◌
room_next ty id h = go (ltb ty tables) refl
  where
    test : ℕ → ℕ → Bool
    test t i = leb (most (row_of t i).expanded + room t (suc i)) (room t i)

    go : (b : Bool) → ltb ty tables ≡ b → most (row_of ty id).expanded + room ty (suc id) ≤ room ty id
    go true t = leb-true _ _ (every_at 5 (test ty) (every_at tables (λ k. every 5 (test k)) refl ty (ltb-true ty tables t)) id h)
    go false t = rw (no_row ty id (ltb-false ty tables t), get_or-eq_default rooms [] {n = ty} (ltb-false ty tables t)) (omega arith)

condition-length : (ty id : ℕ) (c : Condition) → length (condition_octets ty id c) ≤ most (row_of ty id).expanded
unfolding condition_octets when◌then◌else◌
condition-length ty id c = go (eqb (condition_length ty id c) 0) refl
  where
    n : ℕ
    n = condition_length ty id c

    go : (b : Bool) → eqb n 0 ≡ b → length (when b then [] else framed id (take n c.octets)) ≤ most (row_of ty id).expanded
    go true t = omega arith
    go false t =
        let p = eqb-false n 0 t in
        let q = length-written ty id c in
        let k = (row_of ty id).expanded in
        rw (ne_eqb k 0 (λ z. p (omega arith))) (omega (arith, length-take n c.octets))

conditions_length : (ty : ℕ) (cs : List Condition) (id : ℕ) → id + length cs ≡ 5 → length (pieces (condition_octets ty) id cs) ≤ room ty id
unfolding pieces
conditions_length ty [] id e = omega arith
conditions_length ty (c ∷ cs) id e =
    omega (arith, length-append (condition_octets ty id c) (pieces (condition_octets ty) (suc id) cs), condition-length ty id c, room_next ty id (omega arith), conditions_length ty cs (suc id) (omega arith))

room_most : (ty : ℕ) → room ty 0 ≤ 28
room_most ty = go (ltb ty tables) refl
  where
    go : (b : Bool) → ltb ty tables ≡ b → room ty 0 ≤ 28
    go true t = leb-true _ _ (every_at tables (λ k. leb (room k 0) 28) refl ty (ltb-true ty tables t))
    go false t = rw (get_or-eq_default rooms [] {n = ty} (ltb-false ty tables t)) (omega arith)

pub filter-length : (ty : ℕ) (filter : List Condition) → length filter ≡ 5 → length (filter_octets ty filter) ≤ 28
filter-length ty filter five = omega (arith, conditions_length ty filter 0 (zero-add (length filter) ∙ five), room_most ty)

-- ---- elements

pub element-length : (kind : Kind) (e : Element) → length e.filter ≡ 5 → length (element_octets kind e) ≤ 33
unfolding element_octets element_body
element-length Event e five = omega (arith, filter-length e.ty e.filter five)
element-length Diagnostic e five = omega arith

pub elements-length : (kind : Kind) (i : ℕ) (es : List Element) → All ElementLengths es → length (pieces (λ (k : ℕ) (e : Element). element_octets kind e) i es) ≤ 33 * length es
unfolding pieces
elements-length kind i [] shapes = omega arith
elements-length kind i (e ∷ es) (also shape shapes) =
    omega (arith, length-append (element_octets kind e) (pieces (λ (k : ℕ) (x : Element). element_octets kind x) (suc i) es), element-length kind e shape.filter, elements-length kind (suc i) es shapes)
