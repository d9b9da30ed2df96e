-- The elements that were written are read back: the reader's walk and the writer's test of tokens go along the elements together.
-- Assumes nothing.
use Rattle.std.proofs.Common.{ℕ, suc, ◌+◌, ◌-◌, ◌≤◌, ◌<◌, ◌≡◌, refl, sym, ap, ◌∙◌, Bool, true, false, List, [], ◌∷◌, ◌++◌, append_assoc, append-nil, map, length, get_or, take, drop, set, length-append, take_at, ltb, le-ltb, eq-eqb, ne_eqb, ltb-false, add-one, add-zero, zero-add, arith}
use Rattle.std.proofs.Math.ListN.{length-map}
use Rattle.std.proofs.lemmas.List.{map-append}
use Rattle.std.proofs.lemmas.Bool.{lt-leb}
use Rattle.laws.specs.Choice.{when◌then◌else◌}
use Rattle.laws.specs.Buffers.{pieces}
use Rattle.laws.proofs.Choice.{either}
use Rattle.laws.proofs.Walk.{Rest, start, again, done, go_on, stop_end}
use Rattle.laws.proofs.Parts.{stands_at, stands-first, stands-length, stands-behind}
use Rattle.laws.proofs.Arrays.{fill_next}
use Rattle.octets.specs.declared.numbers.Kind.{Kind}
use Rattle.octets.specs.declared.numbers.Kind.TheVariants.{Event, Diagnostic}
use Rattle.octets.specs.Refusals.{no_refusal, Refusal}
use Rattle.octets.specs.Numbers.{request_id}
use Rattle.octets.proofs.ElementLaws.{piece_stands}
use Rattle.octets.proofs.FieldLaws.{pair_halves}
use Rattle.subelements.specs.Subelements.{no_filter, walked, tables, walk}
use Rattle.requests.specs.declared.Element.{Element}
use Rattle.requests.specs.Elements.{element_capacity, ElementWalk, least_body, limit_at, timeout_at, subelements_of, blank_elements, past_elements, has_token, bad_token, with_element, own_request_step, element_step, more_elements}
use Rattle.laws.specs.Members.{All, also, any}
use Rattle.request_writer.specs.Frames.{filter_octets, element_body, element_octets}
use Rattle.request_writer.specs.Writer.{token_refusal}
use Rattle.request_writer.specs.ReadBack.{ElementLengths, written_conditions, read_filter, element_back}
use Rattle.request_writer.proofs.ConditionsBack.{at_subelements, no_conditions, conditions_back}

abbrev pub at_elements : ℕ → ℕ → List Element → ElementWalk
at_elements at n es = record { refusal = no_refusal; at = at; count = n; elements = es }

head-length : (kind : Kind) (e : Element) → 2 ≤ length (element_octets kind e)
unfolding element_octets
head-length kind e = omega arith

-- ---- one element that stands at a position

no_subelements : (s : List ℕ) (ty end : ℕ) → walk s ty end end ≡ at_subelements end 0 no_filter
unfolding walk
no_subelements s ty end = sym (done {left = 0} (start _ _ end 0 _ (omega arith)) (stop_end 0 end end refl (omega arith)))

module _ (s : List ℕ) (at : ℕ) (e : Element) (r : List ℕ) where
  abbrev Stands : Kind → Type 0
  Stands kind = drop at s ≡ element_octets kind e ++ r

  token_at : (kind : Kind) → Stands kind → get_or s (at + 2) 0 ≡ e.token
  unfolding element_octets element_body
  token_at Event h = stands_at s at (element_octets Event e) r h 2 0
  token_at Diagnostic h = stands_at s at (element_octets Diagnostic e) r h 2 0

  type_at : (kind : Kind) → Stands kind → get_or s (at + 3) 0 ≡ e.ty
  unfolding element_octets element_body
  type_at Event h = stands_at s at (element_octets Event e) r h 3 0
  type_at Diagnostic h = stands_at s at (element_octets Diagnostic e) r h 3 0

  limit_back : (kind : Kind) → Stands kind → limit_at s kind at ≡ (element_back kind e).limit
  unfolding element_octets element_body element_back
  limit_back Event h = stands_at s at (element_octets Event e) r h 4 0
  limit_back Diagnostic h = refl

  timeout_back : (kind : Kind) → Stands kind → timeout_at s kind at ≡ (element_back kind e).timeout
  unfolding element_octets element_body element_back
  timeout_back Event h = refl
  timeout_back Diagnostic h =
      let p : at + 4 + 1 ≡ at + 5 = omega arith in
      rw (p, stands_at s at (element_octets Diagnostic e) r h 4 0, stands_at s at (element_octets Diagnostic e) r h 5 0) (pair_halves e.timeout)

  -- its subelements
  subelements_back : (kind : Kind) (end : ℕ) → Stands kind → ElementLengths e → end ≡ at + length (element_octets kind e)
      → subelements_of s kind at end ≡ at_subelements end (element_back kind e).subs (element_back kind e).filter
  unfolding subelements_of element_octets element_body element_back walk when◌then◌else◌
  subelements_back Event end h shaped ends = rw (type_at Event h) (go (ltb e.ty tables) refl)
    where
      body : List ℕ
      body = element_body Event e

      all : walk s e.ty (at + 5) end ≡ at_subelements end (written_conditions e.ty 0 e.filter) (read_filter e.ty 0 e.filter)
      all =
          conditions_back s e.ty end (walk s e.ty (at + 5) end) e.filter [] (at + 5) 0 0 r shaped.octets refl (zero-add _ ∙ shaped.filter)
          (stands-behind s at (78 ∷ length body ∷ e.token ∷ e.ty ∷ e.limit ∷ []) (filter_octets e.ty e.filter ++ r) h (at + 5) refl)
          (omega arith)
          (start _ _ end _ _ (omega arith))
          ∙ rw (zero-add (written_conditions e.ty 0 e.filter))

      go : (t : Bool) → ltb e.ty tables ≡ t
          → (when t then walk s e.ty (at + 5) end else walked no_refusal end)
          ≡ at_subelements end (written_conditions e.ty 0 e.filter) (read_filter e.ty 0 e.filter)
      go true q = all
      go false q =
          let none = no_conditions e.ty (ltb-false e.ty tables q) e.filter 0 in
          let ended : end ≡ at + 5 = omega (arith, ends, ap length none) in
          sym (no_subelements s e.ty end) ∙ ap (λ (from : ℕ). walk s e.ty from end) ended ∙ all
  subelements_back Diagnostic end h shaped ends = let p : at + 6 ≡ end = omega arith in rw p (no_subelements s tables end)

  body_least : (kind : Kind) → least_body kind ≤ length (element_body kind e)
  unfolding element_body
  body_least Event = omega arith
  body_least Diagnostic = omega arith

  fields_back : (kind : Kind) → record {
    token = e.token;
    ty = e.ty;
    limit = (element_back kind e).limit;
    subs = (element_back kind e).subs;
    timeout = (element_back kind e).timeout;
    filter = (element_back kind e).filter;
  } ≡ element_back kind e
  unfolding element_back
  fields_back Event = refl
  fields_back Diagnostic = refl

  -- one step over it
  step_back : (kind : Kind) (n : ℕ) (es : List Element) → Stands kind → ElementLengths e → n < element_capacity → bad_token kind (take n es) e.token ≡ false
      → element_step element_capacity s kind (at_elements at n es) ≡ at_elements (at + length (element_octets kind e)) (n + 1) (set es n (element_back kind e))
  unfolding element_step own_request_step with_element element_octets when◌then◌else◌
  step_back kind n es h shaped few good =
      let b : List ℕ = element_body kind e in
      let l = stands-length s at (element_octets kind e) r h (omega arith) in
      let p : at + 2 + length b ≡ at + length (element_octets kind e) = omega arith in
      rw (
        piece_stands s at (length s) (request_id kind) b r h (omega arith),
        ne_eqb (at + 2 + length b) 0 (λ z. omega (arith, z)),
        stands-first s at (element_octets kind e) r h 0,
        eq-eqb (request_id kind) (request_id kind) refl,
        lt-leb element_capacity n few,
        stands_at s at (element_octets kind e) r h 1 0,
        le-ltb (length b) (least_body kind) (body_least kind),
        token_at kind h,
        good,
        subelements_back kind (at + 2 + length b) h shaped p,
        type_at kind h,
        limit_back kind h,
        timeout_back kind h,
        p,
      )
      (rw (fields_back kind))

-- ---- tokens

read_token : (kind : Kind) (e : Element) → (element_back kind e).token ≡ e.token
unfolding element_back
read_token Event e = refl
read_token Diagnostic e = refl

tokens_same : (kind : Kind) (es : List Element) (t : ℕ) → has_token (map (element_back kind) es) t ≡ has_token es t
unfolding any
tokens_same kind [] t = refl
tokens_same kind (e ∷ es) t = rw (read_token kind e, tokens_same kind es t)

-- the elements read so far have the tokens of those handed in
bad_same : (kind : Kind) (n t : ℕ) (front blank : List Element) → length front ≡ n
    → bad_token kind (take n (map (element_back kind) front ++ blank)) t ≡ bad_token kind front t
unfolding bad_token
bad_same kind n t front blank e = rw (take_at (map (element_back kind) front) blank n (length-map front (element_back kind) ∙ e), tokens_same kind front t)

-- an element that the writer accepts
record Accepts (kind : Kind) (front : List Element) (e : Element) (es : List Element) : Type 0 where
  good : bad_token kind front e.token ≡ false
  left : (token_refusal kind (front ++ (e ∷ [])) es).number ≡ 0

accepts : (kind : Kind) (front : List Element) (e : Element) (es : List Element) → (token_refusal kind front (e ∷ es)).number ≡ 0 → Accepts kind front e es
unfolding token_refusal
accepts kind front e es =
    either (λ (f : Refusal). f.number ≡ 0 → Accepts kind front e es) (bad_token kind front e.token) _ _ (λ _ z. absurd (omega arith)) (λ g z. record { good = g; left = z })

-- ---- all elements

module _ (kind : Kind) (s : List ℕ) (whole : ElementWalk) where
  abbrev octets_from : ℕ → List Element → List ℕ
  octets_from n es = pieces (λ (i : ℕ) (e : Element). element_octets kind e) n es

  abbrev Read : ℕ → List Element → List Element
  Read n front = map (element_back kind) front ++ drop n blank_elements

  pub elements_back : (es front : List Element) (at n : ℕ) → All ElementLengths es → length front ≡ n → n + length es ≤ element_capacity → (token_refusal kind front es).number ≡ 0
      → drop at s ≡ octets_from n es → at + length (octets_from n es) ≡ length s
      → Rest (more_elements s) (element_step element_capacity s kind) whole (length s - at) (at_elements at n (Read n front))
      → whole ≡ at_elements (length s) (n + length es) (Read (n + length es) (front ++ es))
  unfolding pieces
  elements_back [] front at n shapes e few ok h ends left =
      let l : at ≡ length s = omega arith in
      sym (done left (stop_end 0 at (length s) refl (omega arith))) ∙ rw (l, add-zero n, append-nil front)
  elements_back (x ∷ es) front at n (also shape shapes) e few ok h ends left =
      let o : List ℕ = element_octets kind x in
      let rest : List ℕ = octets_from (suc n) es in
      let lo = length-append o rest in
      let lx = head-length kind x in
      let a = accepts kind front x es ok in
      let front₁ : List Element = front ++ (x ∷ []) in
      let filled = fill_next (map (element_back kind) front) blank_elements past_elements n (length-map front (element_back kind) ∙ e) (omega arith) (element_back kind x) in
      let stepped : element_step element_capacity s kind (at_elements at n (Read n front)) ≡ at_elements (at + length o) (suc n) (Read (suc n) front₁)
      = step_back s at x rest kind n (Read n front) h shape (omega arith) (bad_same kind n x.token front _ e ∙ a.good)
      ∙ rw (add-one n, filled, map-append (element_back kind) front (x ∷ [])) in
      let m : suc n + length es ≡ n + suc (length es) = omega arith in
      elements_back es front₁ (at + length o) (suc n) shapes (length-append front (x ∷ []) ∙ omega arith) (omega arith) a.left
      (stands-behind s at o rest h (at + length o) refl) (omega arith)
      (again _ left (go_on 0 at (length s) refl (omega arith)) (omega arith) (sym stepped))
      ∙ rw (m, append_assoc front (x ∷ []) es)
