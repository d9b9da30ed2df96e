-- Laws of the reader: a time is read of the part that it stands in; an event's body is not shorter than its fields; a step that is not refused moves on, and not past the end; its verdict says the rest of it; its outline; where an event stands, an element was found, and how many octets it takes; a turn of the validating loop.
-- Assumes nothing.
use Rattle.std.proofs.lemmas.Bool.{eqb-false, not-true, not-false}
use Rattle.laws.specs.Choice.{when◌then◌else◌}
use Rattle.laws.proofs.Walk.{Rest, start, last, again, done, go_on, stop_refused, stop_end}
use Rattle.laws.proofs.Choice.{either, apply_if, never}
use Rattle.octets.specs.declared.numbers.Kind.{Kind}
use Rattle.octets.specs.declared.numbers.Kind.TheVariants.{Event, Diagnostic}
use Rattle.std.proofs.Common.{Err, ℕ, ◌+◌, ◌-◌, ◌≤◌, ◌<◌, ◌≡◌, refl, sym, ap, ◌∙◌, Bool, true, false, not, ◌||◌, List, [], ◌∷◌, add-zero, arith, length, get_or, take, drop, length-append, eqb, ltb, eqb-true, ltb-false, ne_eqb}
use Rattle.octets.specs.declared.refusals.Refusal.{Refusal as CodeRefusal}
use Rattle.octets.specs.Refusals.{no_refusal, bad_time, bad_requester_list, refusal_of}
use Rattle.octets.proofs.RefusalLaws.{some_number}
use Rattle.octets.specs.Elements.{piece_end}
use Rattle.octets.specs.Times.{time_at}
use Rattle.octets.proofs.PlaceLaws.{octets-within}
use Rattle.octets.proofs.ElementLaws.{piece_ends}
use Rattle.subelements.specs.Subelements.{tables, walk, Subelements}
use Rattle.events.specs.Times.{is_form, time_length}
use Rattle.events.specs.Transitions.{transition_length}
use Rattle.events.specs.RsnaEvents.{rsn_length, rsna_length}
use Rattle.events.specs.PeerLinks.{peer_link_length}
use Rattle.events.proofs.RsnaLaws.{method_some}
use Rattle.report_reader.specs.Reader.{refused_step, skipped_step, plain_step, logged_step, bare_step, report_length, is_rsna_length, is_event_length, good_time_at, typed_step, event_step, walked_step, diagnostic_step, kind_step, own_report_step, step_at, cursor_step, element_read_at, step_read, Reading, reading, gathered, unread, read_step, read_elements, Step}
use Rattle.report_reader.specs.declared.Verdict.TheVariants.{Plain, Logged}
use Rattle.report_reader.specs.Internal.{verdict_of, walk_of, found_element, Fits, step_of, timed_verdict, held, Outline, EventOutline, Verdict, Walk, verdict_given, verdict_read, walk_read}

-- ---- a time, read of the part that it stands in

module _ (s : List ℕ) (at m : ℕ) where
  pub time_part : 9 ≤ m → time_at (take m (drop at s)) 0 ≡ time_at s at
  time_part h = octets-within s m at 9 0 h ∙ ap (time_at s) (add-zero at)

-- ---- an event's body

pub time_least : (form : ℕ) → 9 ≤ time_length form
time_least form = either (λ (n : ℕ). 9 ≤ n) _ _ _ (λ _. omega arith) (λ _. omega arith)

rsna_least : (form first n : ℕ) → is_rsna_length form first n ≡ true → 24 ≤ n
rsna_least form first n h = go (eqb n (report_length form (rsna_length first))) (eqb n (report_length form (rsna_length first + rsn_length))) refl refl h
  where
    go : (x y : Bool) → eqb n (report_length form (rsna_length first)) ≡ x → eqb n (report_length form (rsna_length first + rsn_length)) ≡ y → (x || y) ≡ true → 24 ≤ n
    go true y p q e = omega (arith, eqb-true n (report_length form (rsna_length first)) p, method_some first, time_least form)
    go false true p q e = omega (arith, eqb-true n (report_length form (rsna_length first + rsn_length)) q, method_some first, time_least form)
    go false false p q e = never e

pub event_least : (form : ℕ) (s : List ℕ) (at n ty : ℕ) → is_event_length form s at n ty ≡ true → 24 ≤ n
unfolding is_event_length
event_least form s at n ty =
    let P : Bool → Type 0 = λ (b : Bool). b ≡ true → 24 ≤ n in
    either P _ _ _ (λ _ e. omega (arith, eqb-true n (report_length form transition_length) e, time_least form))
    (λ _. either P _ _ _ (λ _. rsna_least form _ n) (λ _ e. omega (arith, eqb-true n (report_length form peer_link_length) e, time_least form)))

-- ---- an event report of length 3 is plain

module _ (form : ℕ) (s : List ℕ) (at : ℕ) where
  plain_event : event_step form s at 3 ≡ plain_step s at 3 0
  unfolding event_step bare_step typed_step when◌then◌else◌
  plain_event = go (eqb (get_or s (at + 4) 0) 0) (ltb (get_or s (at + 3) 0) tables)
    where
      go : (a b : Bool) → (when not a then plain_step s at 3 0 else when b then plain_step s at 3 0 else plain_step s at 3 0) ≡ plain_step s at 3 0
      go true true = refl
      go true false = refl
      go false b = refl

  pub short-event : {n : ℕ} → n ≡ 3 → event_step form s at n ≡ plain_step s at n 0
  short-event e = rw e plain_event

-- ---- a step is one of four: refused, passed over, with no event, or with one

data Stands (s : List ℕ) (at : ℕ) : Step → Type 0 where
  is-refused : (n p : ℕ) → 0 < n → Stands s at (refused_step n p)
  is_skipped : (e : ℕ) → at < e → e ≤ length s → Stands s at (skipped_step e)
  is_plain : (n subs : ℕ) → 3 ≤ n → at + 2 + n ≤ length s → Stands s at (plain_step s at n subs)
  is-logged : (n : ℕ) → 24 ≤ n → at + 2 + n ≤ length s → Stands s at (logged_step s at n)

module _ (form : ℕ) (s : List ℕ) (at n : ℕ) (few : 3 ≤ n) (h : at + 2 + n ≤ length s) where
  bare-stands : Stands s at (bare_step s at n)
  unfolding bare_step
  bare-stands = either (Stands s at) _ _ _ (λ _. is_plain n 0 few h) (λ _. is-refused 17 at (omega arith))

  typed_stands : Stands s at (typed_step form s at n)
  unfolding typed_step
  typed_stands =
      either (Stands s at) _ _ _ (λ _. is_plain n 0 few h)
      (λ _. either (Stands s at) _ _ _ (λ _. is-refused 17 at (omega arith))
      (λ p. either (Stands s at) _ _ _ (λ _. is-refused 14 at (omega arith)) (λ _. is-logged n (event_least form s at n _ (not-false _ p)) h)))

  event-stands : Stands s at (event_step form s at n)
  unfolding event_step
  event-stands = either (Stands s at) _ _ _ (λ _. bare-stands) (λ _. either (Stands s at) _ _ _ (λ _. typed_stands) (λ _. is_plain n 0 few h))

  walked-stands : (w : Subelements) → Stands s at (walked_step s at n w)
  unfolding walked_step
  walked-stands w =
      either (Stands s at) _ _ _ (λ p. is-refused w.refusal.number w.refusal.place (positive (eqb-false w.refusal.number 0 (not-true _ p))))
      (λ _. is_plain n w.count few h)
    where
      positive : {k : ℕ} → (k ≡ 0 → ⊥) → 0 < k
      positive f = omega (arith, f)

  kind_stands : (kind : Kind) → Stands s at (kind_step form kind s at n)
  unfolding diagnostic_step
  kind_stands Event = event-stands
  kind_stands Diagnostic = walked-stands (walk s tables (at + 5) (at + 2 + n))

own_stands : (form : ℕ) (s : List ℕ) (kind : Kind) (at n : ℕ) → at + 2 + n ≤ length s → Stands s at (own_report_step form s kind at n)
unfolding own_report_step
own_stands form s kind at n h =
    either (Stands s at) _ _ _ (λ _. is-refused 5 at (omega arith))
    (λ p. either (Stands s at) _ _ _ (λ _. is-refused 17 at (omega arith)) (λ _. kind_stands form s at n (ltb-false n 3 p) h kind))

stands : (form : ℕ) (s : List ℕ) (kind : Kind) (at : ℕ) → Stands s at (step_at form s kind at)
unfolding step_at
stands form s kind at =
    either (Stands s at) _ _ _ (λ _. is-refused 4 at (omega arith))
    (λ p. let e = piece_ends s at (length s) (eqb-false _ _ p) in
    either (Stands s at) _ _ _ (λ _. is_skipped (piece_end s at (length s)) (omega (arith, e.is)) e.within)
    (λ _. own_stands form s kind at (get_or s (at + 1) 0) (omega (arith, e.is, e.within))))

cursor_stands : (form : ℕ) (s : List ℕ) (kind : Kind) (at : ℕ) → Stands s at (cursor_step form s kind at)
unfolding cursor_step
cursor_stands form s kind at = either (Stands s at) _ _ _ (λ _. is-refused bad_requester_list 0 (omega arith)) (λ _. stands form s kind at)

-- ---- so it moves on

pub record Forward (s : List ℕ) (at : ℕ) (t : Step) : Type 0 where
  pub on : at < t.next.at
  pub within : t.next.at ≤ length s

goes : (s : List ℕ) (at : ℕ) {t : Step} → Stands s at t → t.refusal.number ≡ 0 → Forward s at t
unfolding plain_step logged_step
goes s at (is-refused n p h) z = absurd (omega arith)
goes s at (is_skipped e on within) z = record { on = on; within = within }
goes s at (is_plain n subs few h) z = record { on = omega arith; within = h }
goes s at (is-logged n few h) z = record { on = omega arith; within = h }

step_goes : (form : ℕ) (s : List ℕ) (kind : Kind) (at : ℕ) → (step_at form s kind at).refusal.number ≡ 0 → Forward s at (step_at form s kind at)
step_goes form s kind at = goes s at (stands form s kind at)

-- the same of a step that was taken, for loops over a cursor
pub goes_on : (form : ℕ) (s : List ℕ) (kind : Kind) (at : ℕ) (t : Step) → t ≡ cursor_step form s kind at → t.refusal.number ≡ 0 → Forward s at t
goes_on form s kind at t e z = rw e (goes s at (cursor_stands form s kind at) (rw e at z))

-- ---- and its verdict says the rest of it

stands-told : (s : List ℕ) (at : ℕ) {t : Step} → Stands s at t → step_of s at (verdict_of t) ≡ t
unfolding step_of found_element verdict_of plain_step logged_step when◌then◌else◌
stands-told s at (is-refused n p h) = refl
stands-told s at (is_skipped e on within) = refl
stands-told s at (is_plain n subs few h) = let e : at + 2 + n - (at + 5) ≡ n - 3 = omega arith in rw e
stands-told s at (is-logged n few h) = let e : at + 2 + n - (at + 5) ≡ n - 3 = omega arith in rw e

stands-fits : (s : List ℕ) (at : ℕ) {t : Step} → Stands s at t → (verdict_of t).found ≡ true → Fits s at (verdict_of t)
unfolding verdict_of plain_step logged_step
stands-fits s at (is-refused n p h) e = never e
stands-fits s at (is_skipped n on within) e = never e
stands-fits s at (is_plain n subs few h) e = record { head = omega arith; within = h }
stands-fits s at (is-logged n few h) e = record { head = omega arith; within = h }

module _ (form : ℕ) (s : List ℕ) (kind : Kind) (at : ℕ) where
  pub step-told : step_of s at (verdict_of (step_at form s kind at)) ≡ step_at form s kind at
  step-told = stands-told s at (stands form s kind at)

  pub step_fits : {v : Verdict} → v ≡ verdict_of (step_at form s kind at) → v.found ≡ true → Fits s at v
  step_fits e f = rw e (stands-fits s at (stands form s kind at) (rw e at f))

-- ---- outlines: of a step that is refused, or passed over; with no event, or with one; and of a diagnostic

module _ (form : ℕ) (s : List ℕ) (kind : Kind) (at : ℕ) {v : Verdict} where
  pub refused_outline : (number place : ℕ) → v ≡ verdict_of (refused_step number place) → Outline form s kind at v (refused_step number place)
  unfolding verdict_of held when◌then◌else◌
  refused_outline number place e = rw e (record { stands = record { fits = never; timely = never }; told = refl })

  pub skipped_outline : (next : ℕ) → v ≡ verdict_of (skipped_step next) → Outline form s kind at v (skipped_step next)
  unfolding verdict_of held when◌then◌else◌
  skipped_outline next e = rw e (record { stands = record { fits = never; timely = never }; told = refl })

module _ (form : ℕ) (s : List ℕ) (at n : ℕ) {v : Verdict} (h : at + 2 + n ≤ length s) where
  pub plain_outline : 3 ≤ n → v ≡ verdict_of (plain_step s at n 0) → EventOutline form s at v (plain_step s at n 0)
  unfolding verdict_of plain_step held timed_verdict when◌then◌else◌
  plain_outline few e = rw e (record { stands = record { fits = λ _. record { head = omega arith; within = h }; timely = never }; told = refl })

  pub logged_outline : 24 ≤ n → v ≡ verdict_of (logged_step s at n)
      → EventOutline form s at v (when not (good_time_at form s (at + 5)) then refused_step bad_time at else logged_step s at n)
  unfolding verdict_of logged_step held timed_verdict when◌then◌else◌
  logged_outline few e = rw e (record {
    stands = record { fits = λ _. record { head = omega arith; within = h }; timely = λ _. omega arith };
    told = sym (apply_if verdict_of (not (good_time_at form s (at + 5))) (refused_step bad_time at) (logged_step s at n));
  })

  pub diagnostic_outline : 3 ≤ n → v ≡ verdict_of (plain_step s at n 0) → Outline form s Diagnostic at v (diagnostic_step s at n)
  unfolding verdict_of plain_step held when◌then◌else◌
  diagnostic_outline few e =
      let k : at + 2 + n - (at + 2) ≡ n = omega arith in
      rw e (record { stands = record { fits = λ _. record { head = omega arith; within = h }; timely = never }; told = ap (λ (m : ℕ). verdict_of (diagnostic_step s at m)) k })

-- ---- an element that was found takes five octets at least, one with an event 26, and those behind its status stand in the frame

pub record Extent (s : List ℕ) (at : ℕ) (t : Step) : Type 0 where
  pub least : at + 5 ≤ t.next.at
  pub within : t.rest + t.element.length ≤ length s
  pub event : t.element.logged ≡ true → at + 26 ≤ t.next.at

stands_extends : (s : List ℕ) (at : ℕ) {t : Step} → Stands s at t → t.found ≡ true → Extent s at t
unfolding plain_step logged_step
stands_extends s at (is-refused n p h) e = never e
stands_extends s at (is_skipped n on within) e = never e
stands_extends s at (is_plain n subs few h) e = record { least = omega arith; within = omega arith; event = never }
stands_extends s at (is-logged n few h) e = record { least = omega arith; within = omega arith; event = λ _. omega arith }

pub found_extent : (form : ℕ) (s : List ℕ) (kind : Kind) (at : ℕ) (t : Step) → t ≡ cursor_step form s kind at → t.found ≡ true → Extent s at t
found_extent form s kind at t e f = rw e (stands_extends s at (cursor_stands form s kind at) (rw e at f))

-- ---- told a form, the cursor hands out what stands there

pub cursor_told : (form : ℕ) → is_form form ≡ true → (s : List ℕ) (kind : Kind) (at : ℕ) → cursor_step form s kind at ≡ step_at form s kind at
unfolding cursor_step when◌then◌else◌
cursor_told form is s kind at = rw is

-- ---- the reading's step moves on too, and its position bounds the number of elements

record Moved (end : ℕ) (x y : Reading) : Type 0 where
  on : x.at < y.at
  within : y.at ≤ end
  counted : length y.elements ≤ y.at

gathered_moves : (form : ℕ) (s : List ℕ) (x : Reading) (t : Step) → (t.refusal.number ≡ 0 → Forward s x.at t) → length x.elements ≤ x.at → (gathered form s x t).refusal.number ≡ 0
    → Moved (length s) x (gathered form s x t)
unfolding gathered
gathered_moves form s x t f c =
    let P : Reading → Type 0 = λ (y : Reading). y.refusal.number ≡ 0 → Moved (length s) x y in
    either P _ _ _ (λ p z. absurd (eqb-false t.refusal.number 0 (not-true _ p) z))
    (λ p. let g = f (eqb-true t.refusal.number 0 (not-false _ p)) in
    either P _ _ _
    (λ _ _. record { on = g.on; within = g.within; counted = omega (arith, g.on, length-append x.elements (element_read_at form s t ∷ [])) })
    (λ _ _. record { on = g.on; within = g.within; counted = omega (arith, g.on) }))

-- ---- the validating loop: what it keeps is a reading's, and what is left of the reading gives the whole

pub record Validating (form : ℕ) (s : List ℕ) (kind : Kind) (w : Walk) : Type 0 where
  pub read : Reading
  pub is : w ≡ walk_of read
  pub fine : read.refusal.number ≡ 0
  pub counted : w.count ≤ w.at
  pub left : Rest (unread (length s)) (read_step form s kind) (read_elements form s kind) (length s - read.at) read

pub validating_start : (form : ℕ) (s : List ℕ) (kind : Kind) → Validating form s kind (walk_of (reading no_refusal 3 []))
unfolding read_elements
validating_start form s kind =
    record { read = reading no_refusal 3 []; is = refl; fine = refl; counted = omega arith; left = start _ _ (length s) _ _ (omega arith) }

module _ {form : ℕ} {s : List ℕ} {kind : Kind} {w : Walk} (v : Validating form s kind w) where
  place : w.at ≡ v.read.at
  place = ap (λ (x : Walk). x.at) v.is

  pub validating_end : length s ≤ w.at → w ≡ walk_of (read_elements form s kind)
  validating_end end = v.is ∙ ap walk_of (done v.left (stop_end _ v.read.at (length s) v.fine (omega (arith, place))))

  -- a turn
  module _ (inside : w.at < length s) {r : Walk} (does : r ≡ walk_of (gathered form s v.read (step_at form s kind w.at))) where
    more : unread (length s) v.read ≡ true
    more = go_on _ v.read.at (length s) v.fine (omega (arith, place))

    abbrev y : Reading
    y = read_step form s kind v.read

    turned : r ≡ walk_of y
    unfolding read_step
    turned = does ∙ ap (λ (k : ℕ). walk_of (gathered form s v.read (step_at form s kind k))) place

    number : r.refusal.number ≡ y.refusal.number
    number = ap (λ (x : Walk). x.refusal.number) turned

    pub validating_refused : (r.refusal.number ≡ 0 → ⊥) → r ≡ walk_of (read_elements form s kind)
    validating_refused stops = turned ∙ ap walk_of (last v.left more (omega (arith, place)) refl (stop_refused _ y.at (length s) (λ z. stops (number ∙ z))))

    module _ (fine : r.refusal.number ≡ 0) where
      moved : Moved (length s) v.read y
      unfolding read_step
      moved =
          gathered_moves form s v.read (step_at form s kind v.read.at) (step_goes form s kind v.read.at) (rw v.is at v.counted) (sym number ∙ fine)

      pub validating_on : w.at < r.at
      validating_on = omega (arith, place, moved.on, ap (λ (x : Walk). x.at) turned)

      pub validating_next : Validating form s kind r
      validating_next = record {
        read = y;
        is = turned;
        fine = sym number ∙ fine;
        counted = rw turned moved.counted;
        left = again _ v.left more (omega (arith, moved.on, moved.within)) refl;
      }

-- ---- verdicts and walks as code gives them

module _ (s : List ℕ) (at n : ℕ) {end : ℕ} (e : end ≡ at + 2 + n) where
  pub told_plain : (subs : ℕ) → verdict_given (Plain end subs) ≡ verdict_of (plain_step s at n subs)
  unfolding verdict_of plain_step
  told_plain subs = rw e

  pub told_logged : verdict_given (Logged end) ≡ verdict_of (logged_step s at n)
  unfolding verdict_of logged_step
  told_logged = rw e

-- what is refused is not held to anything more
module _ (form : ℕ) (s : List ℕ) (kind : Kind) (at : ℕ) (r : CodeRefusal) (t : Step) where
  pub refused_gathered : (x : Reading) → verdict_read (Err r) ≡ verdict_of t → walk_read (Err r) ≡ walk_of (gathered form s x t)
  unfolding gathered verdict_of when◌then◌else◌
  refused_gathered x e = let f : refusal_of r ≡ t.refusal = ap (λ (v : Verdict). v.refusal) e in
      rw (← f, ne_eqb _ 0 (some_number r.cause))

  pub refused_told : verdict_read (Err r) ≡ verdict_of t → step_of s at (verdict_of t) ≡ t → step_read (Err r) ≡ t
  unfolding step_of when◌then◌else◌
  refused_told e same = rw (← e) at same

-- what the check may use of outlines
pub ruleset outlines = (plain_outline, told_plain, short-event)
