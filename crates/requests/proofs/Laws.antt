-- Laws of the walk over elements: the number of subelements and of elements, and a turn of the walk's loop.
-- Assumes nothing.
use Rattle.std.proofs.Common.{ℕ, ◌+◌, ◌-◌, ◌≤◌, ◌<◌, ◌≡◌, refl, ap, ◌∙◌, Bool, true, false, List, ltb, length, get_or, set, take, drop, length-take, length-set, length-drop, take_all, eq-eqb, ne_eqb, eqb-true, leb-false, le-leb, lt-ltb, le-ltb, arith}
use Rattle.std.proofs.lemmas.Bool.{eqb-false, lt-leb, not-true, not-false}
use Rattle.laws.specs.Choice.{when◌then◌else◌}
use Rattle.laws.proofs.Choice.{either, never}
use Rattle.std.proofs.lemmas.Bool.{and_parts}
use Rattle.laws.proofs.Walk.{Rest, start, last, again, done, go_on, stop_refused, stop_end, keeps_while, keeps}
use Rattle.std.proofs.lemmas.List.{get_or-drop}
use Rattle.octets.specs.declared.numbers.Kind.{Kind}
use Rattle.octets.specs.declared.numbers.Kind.TheVariants.{Event, Diagnostic}
use Rattle.octets.specs.Refusals.{no_refusal, element_past_end, too_many_elements, short_element, bad_element_token, no_element}
use Rattle.octets.specs.Numbers.{request_action, request_id}
use Rattle.octets.specs.Elements.{piece_end}
use Rattle.octets.proofs.FrameLaws.{head-length}
use Rattle.octets.proofs.ElementLaws.{Ends, piece_ends}
use Rattle.subelements.specs.declared.Condition.{Condition}
use Rattle.subelements.specs.Subelements.{walked, refused_walk, past, whole_step, subelement_step, tables, walk, Subelements}
use Rattle.subelements.proofs.Laws.{walk-at_end}
use Rattle.requests.specs.declared.Element.{Element}
use Rattle.requests.specs.Elements.{element_capacity, least_body, limit_at, timeout_at, table_of, subelements_of, element_of, blank_elements, bad_token, ElementWalk, started, refused_elements, with_element, own_request_step, element_step, more_elements, walk_elements}
use Rattle.requests.specs.Internal.{subelements_start}
use Rattle.requests.specs.Requests.{refused_request, lacks_element, request_of, request_kind, header_cause, read_request, Request}

-- ---- the number of subelements: an element of at most 255 octets has fewer than 256

module _ (s : List ℕ) (ty from end : ℕ) where
  record Few (w : Subelements) : Type 0 where
    few : w.count ≤ end - from
    behind : w.refusal.number ≡ 0 → from + w.count ≤ w.at

  refused_few : (n p : ℕ) → 0 < n → Few (refused_walk n p)
  refused_few n p h = record { few = omega arith; behind = λ z. absurd (omega arith) }

  past_few : (w : Subelements) (next : ℕ) (f : List Condition) → Ends s w.at end next → from + w.count ≤ w.at → Few (past w next f)
  past_few w next f h p = record { few = omega (arith, h.is, h.within); behind = λ _. omega (arith, h.is) }

  whole_few : (w : Subelements) (next : ℕ) → Ends s w.at end next → from + w.count ≤ w.at → Few (whole_step s ty w next)
  unfolding whole_step
  whole_few w next h p =
      either Few _ _ _ (λ _. past_few w next _ h p)
      (λ _. either Few _ _ _ (λ _. refused_few 7 _ (omega arith))
      (λ _. either Few _ _ _ (λ _. refused_few 8 _ (omega arith))
      (λ _. past_few w next _ h p)))

  step_few : (w : Subelements) → w.refusal.number ≡ 0 → Few w → Few (subelement_step s ty end w)
  unfolding subelement_step
  step_few w z p =
      either Few _ _ _ (λ _. refused_few 7 _ (omega arith))
      (λ h. whole_few w _ (piece_ends s w.at end (eqb-false _ _ h)) (p.behind z))

  pub walk_few : (walk s ty from end).count ≤ end - from
  unfolding walk
  walk_few =
      (keeps_while Few _ _ (λ w m p. step_few w (eqb-true _ 0 (and_parts _ _ m).0) p) end (walked no_refusal from) (record { few = omega arith; behind = λ _. omega arith })).few

-- the walk from where they start
pub subelements-from : (s : List ℕ) (kind : Kind) (at end : ℕ)
    → walk s (table_of kind (get_or s (at + 3) 0)) (subelements_start s kind at end) end ≡ subelements_of s kind at end
unfolding subelements_of subelements_start when◌then◌else◌
subelements-from s Event at end = go (ltb (get_or s (at + 3) 0) tables)
  where
    ty : ℕ
    ty = get_or s (at + 3) 0

    go : (b : Bool) → walk s ty (when b then at + 5 else end) end ≡ (when b then walk s ty (at + 5) end else walked no_refusal end)
    go true = refl
    go false = walk-at_end s ty end
subelements-from s Diagnostic at end = refl

-- the octets from a position on
rest_of : (s : List ℕ) (at : ℕ) → take (length s - at) (drop at s) ≡ drop at s
rest_of s at = take_all (length s - at) (drop at s) (omega (arith, length-drop at s))

-- an element in the octets from its own on
pub element_from : (s : List ℕ) (kind : Kind) (at : ℕ) (subs : Subelements) → element_of (take (length s - at) (drop at s)) kind 0 subs ≡ element_of s kind at subs
element_from s kind at subs = rw (rest_of s at, get_or-drop at s 2 0, get_or-drop at s 3 0) (by_kind kind)
  where
    by_kind : (k : Kind) → record { token = get_or s (at + 2) 0; ty = get_or s (at + 3) 0; limit = limit_at (drop at s) k 0; subs = subs.count; timeout = timeout_at (drop at s) k 0; filter = subs.filter } ≡ element_of s k at subs
    by_kind Event = rw (get_or-drop at s 4 0)
    by_kind Diagnostic = let n : at + 4 + 1 ≡ at + 5 = omega arith in rw (get_or-drop at s 4 0, get_or-drop at s 5 0, n)

pub subelements_few : (s : List ℕ) (kind : Kind) (at end : ℕ) → end ≤ at + 257 → (subelements_of s kind at end).count < 256
unfolding subelements_of
subelements_few s Event at end h =
    either (λ (w : Subelements). w.count < 256) _ _ _ (λ _. omega (arith, walk_few s (get_or s (at + 3) 0) (at + 5) end)) (λ _. omega arith)
subelements_few s Diagnostic at end h = omega (arith, walk_few s tables (at + 6) end)

-- ---- the number of elements: a request that was read has no more than it may have

abbrev EightPlaces : ElementWalk → Type 0
EightPlaces w = length w.elements ≡ element_capacity

module _ (most : ℕ) (s : List ℕ) where
  abbrev Within : ElementWalk → Type 0
  Within w = w.count ≤ most

  step-within : (kind : Kind) (w : ElementWalk) → Within w → Within (element_step most s kind w)
  unfolding element_step own_request_step with_element
  step-within kind w h =
      either Within _ _ _ (λ _. omega arith)
      (λ _. either Within _ _ _ (λ _. h)
      (λ _. either Within _ _ _ (λ _. omega arith)
      (λ n. either Within _ _ _ (λ _. omega arith)
      (λ _. either Within _ _ _ (λ _. omega arith)
      (λ _. either Within _ _ _ (λ _. omega arith) (λ _. omega (arith, leb-false most w.count n)))))))

  pub request_few : (read_request most s).count ≤ most
  unfolding read_request request_of walk_elements
  request_few =
      let P : Request → Type 0 = λ (q : Request). q.count ≤ most in
      either P _ _ _ (λ _. omega arith)
      (λ _. either P _ _ _ (λ _. omega arith)
      (λ _. either P _ _ _ (λ _. omega arith)
      (λ _. keeps Within _ _ (step-within (request_kind s)) (length s) (started no_refusal 3) (omega arith))))

  step_eight : (kind : Kind) (w : ElementWalk) → EightPlaces w → EightPlaces (element_step most s kind w)
  unfolding element_step own_request_step with_element
  step_eight kind w h =
      either EightPlaces _ _ _ (λ _. refl)
      (λ _. either EightPlaces _ _ _ (λ _. h)
      (λ _. either EightPlaces _ _ _ (λ _. refl)
      (λ _. either EightPlaces _ _ _ (λ _. refl)
      (λ _. either EightPlaces _ _ _ (λ _. refl)
      (λ _. either EightPlaces _ _ _ (λ _. refl) (λ _. length-set w.elements w.count _ ∙ h))))))

-- and a diagnostic one that is not refused has one at least
pub record HasOne (q : Request) : Type 0 where
  pub one : q.refusal.number ≡ 0 → q.kind ≡ Diagnostic → 1 ≤ length (take q.count q.elements)

refused-one : (n p : ℕ) → (n ≡ 0 → ⊥) → HasOne (refused_request n p)
refused-one n p z = record { one = λ e. absurd (z e) }

read_one : (kind : Kind) (dialog count : ℕ) (es : List Element) → length es ≡ element_capacity → lacks_element kind count ≡ false
    → HasOne (record { refusal = no_refusal; kind = kind; dialog = dialog; count = count; elements = es })
read_one Event dialog count es eight h = record { one = λ _ e. never cc }
read_one Diagnostic dialog count es eight h = record { one = λ _ _. omega (arith, length-take count es, eqb-false count 0 h) }

pub request_some : (most : ℕ) (s : List ℕ) → HasOne (read_request most s)
unfolding read_request request_of walk_elements
request_some most s =
    either HasOne _ _ _ (λ h. refused-one _ 0 (eqb-false _ 0 (not-true _ h)))
    (λ _. either HasOne _ _ _ (λ h. refused-one _ _ (eqb-false _ 0 (not-true _ h)))
    (λ _. either HasOne _ _ _ (λ _. refused-one no_element 0 (λ e. omega arith))
    (λ h. read_one (request_kind s) (get_or s 2 0) _ _ (keeps EightPlaces _ _ (step_eight most s (request_kind s)) (length s) (started no_refusal 3) refl) h)))

-- ---- the header

pub header_length : (s : List ℕ) (kind : Kind) → header_cause s kind ≡ 0 → length s ≤ 2304
unfolding header_cause
header_length s kind =
    let P : ℕ → Type 0 = λ (n : ℕ). n ≡ 0 → length s ≤ 2304 in
    either P _ _ _ (λ _. head-length s (request_action kind)) (λ h _. head-length s (request_action kind) (eqb-true _ 0 (not-false _ h)))

-- ---- a turn of the walk's loop, by the tests that lead through it

-- a walk that is not refused
abbrev walks : ℕ → ℕ → List Element → ElementWalk
walks at count es = record { refusal = no_refusal; at = at; count = count; elements = es }

-- what holds before each turn: eight places, and what is left of the walk gives what the whole walk gives
pub record Walking (s : List ℕ) (kind : Kind) (at count : ℕ) (es : List Element) : Type 0 where
  pub eight : length es ≡ element_capacity
  pub rest : Rest (more_elements s) (element_step element_capacity s kind) (walk_elements element_capacity s kind) (length s - at) (walks at count es)

pub walking_start : (s : List ℕ) (kind : Kind) → Walking s kind 3 0 blank_elements
unfolding walk_elements
walking_start s kind = record { eight = refl; rest = start _ _ (length s) _ _ (omega arith) }

refused-walk : (kind : Kind) (dialog n p : ℕ) → (n ≡ 0 → ⊥) → refused_request n p ≡ request_of kind dialog (refused_elements n p)
unfolding request_of when◌then◌else◌
refused-walk kind dialog n p z = rw (ne_eqb n 0 z)

module _ {s : List ℕ} {kind : Kind} {at count : ℕ} {es : List Element} (i : Walking s kind at count es) (dialog : ℕ) where
  abbrev w : ElementWalk
  w = walks at count es

  abbrev Reads : Request → Type 0
  Reads r = r ≡ request_of kind dialog (walk_elements element_capacity s kind)

  module _ (h : length s ≤ at) where
    ended : request_of kind dialog w ≡ request_of kind dialog (walk_elements element_capacity s kind)
    ended = ap (request_of kind dialog) (done i.rest (stop_end _ _ _ refl h))

    pub lacks : {r : Request} {lacking : Bool} → lacking ≡ lacks_element kind count → lacking ≡ true → r ≡ refused_request no_element 0 → Reads r
    unfolding request_of when◌then◌else◌
    lacks f x q = q ∙ rw (← f, x) at ended

    pub found : {lacking : Bool} → lacking ≡ lacks_element kind count → lacking ≡ false
        → Reads (record { refusal = no_refusal; kind = kind; dialog = dialog; count = count; elements = es })
    unfolding request_of when◌then◌else◌
    found f x = rw (← f, x) at ended

  module _ (h : at < length s) {end : ℕ} (e : end ≡ piece_end s at (length s)) where
    refuses : {r : Request} (n p : ℕ) → (n ≡ 0 → ⊥) → r ≡ refused_request n p → refused_elements n p ≡ element_step element_capacity s kind w → Reads r
    refuses n p z q f =
        q ∙ refused-walk kind dialog n p z ∙ ap (request_of kind dialog) (last i.rest (go_on _ _ _ refl h) (omega arith) f (stop_refused n 0 (length s) z))

    pub refused_edge : {r : Request} → end ≡ 0 → r ≡ refused_request element_past_end at → Reads r
    unfolding element_step when◌then◌else◌
    refused_edge z q = refuses 4 _ (λ x. omega arith) q (rw (← e, eq-eqb end 0 z))

    module _ (z : end ≡ 0 → ⊥) where
      ends : Ends s at (length s) end
      ends = rw e (piece_ends s at (length s) (λ y. z (e ∙ y)))

      pub moves : length s - end < length s - at
      moves = omega (arith, ends.is)

      pub within : {n : ℕ} → n ≡ get_or s (at + 1) 0 → n < 256 → end ≤ at + 257
      within m x = omega (arith, m, ends.is)

      goes : (k : ℕ) (fs : List Element) → length fs ≡ element_capacity → walks end k fs ≡ element_step element_capacity s kind w → Walking s kind end k fs
      goes k fs l q = record { eight = l; rest = again _ i.rest (go_on _ _ _ refl h) moves q }

      module _ {id own : ℕ} (d : id ≡ get_or s at 0) (o : own ≡ request_id kind) where
        pub passed_over : (id ≡ own → ⊥) → Walking s kind end count es
        unfolding element_step when◌then◌else◌
        passed_over y = goes count es i.eight (rw (← e, ne_eqb end 0 z, ← d, ← o, ne_eqb id own y))

        module _ (y : id ≡ own) where
          owns : own_request_step element_capacity s kind w end ≡ element_step element_capacity s kind w
          unfolding element_step when◌then◌else◌
          owns = rw (← e, ne_eqb end 0 z, ← d, ← o, eq-eqb id own y)

          pub refused_ninth : {r : Request} → element_capacity ≤ count → r ≡ refused_request too_many_elements at → Reads r
          unfolding own_request_step when◌then◌else◌
          refused_ninth k q = refuses 9 _ (λ x. omega arith) q (rw (← owns, le-leb element_capacity count k))

          module _ (k : count < element_capacity) {n least : ℕ} (m : n ≡ get_or s (at + 1) 0) (b : least ≡ least_body kind) where
            pub refused-length : {r : Request} → n < least → r ≡ refused_request short_element at → Reads r
            unfolding own_request_step when◌then◌else◌
            refused-length l q = refuses 5 _ (λ x. omega arith) q (rw (← owns, lt-leb element_capacity count k, ← m, ← b, lt-ltb n least l))

            module _ (l : least ≤ n) {t : ℕ} {bad : Bool} (g : t ≡ get_or s (at + 2) 0) (f : bad ≡ bad_token kind (take count es) t) where
              pub refused_token : {r : Request} → bad ≡ true → r ≡ refused_request bad_element_token at → Reads r
              unfolding own_request_step when◌then◌else◌
              refused_token x q = refuses 6 _ (λ x. omega arith) q (rw (← owns, lt-leb element_capacity count k, ← m, ← b, le-ltb n least l, ← g, ← f, x))

              module _ (x : bad ≡ false) {subs : Subelements} (u : subs ≡ subelements_of s kind at end) where
                with-subelements : with_element s kind w end subs ≡ element_step element_capacity s kind w
                unfolding own_request_step when◌then◌else◌
                with-subelements = rw (← owns, lt-leb element_capacity count k, ← m, ← b, le-ltb n least l, ← g, ← f, x, ← u)

                pub refused-subelements : {r : Request} → (subs.refusal.number ≡ 0 → ⊥) → r ≡ refused_request subs.refusal.number subs.refusal.place → Reads r
                unfolding with_element when◌then◌else◌
                refused-subelements v q = refuses _ _ v q (rw (← with-subelements, ne_eqb subs.refusal.number 0 v))

                pub added : {a : Element} → subs.refusal.number ≡ 0 → a ≡ element_of s kind at subs → Walking s kind end (count + 1) (set es count a)
                unfolding with_element when◌then◌else◌
                added v q =
                    rw q (goes (count + 1) (set es count _) (length-set es count _ ∙ i.eight) (rw (← with-subelements, eq-eqb subs.refusal.number 0 v)))
