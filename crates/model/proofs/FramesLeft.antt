-- How many frames a request may still give, and what becomes of that: a frame that leaves the request outstanding takes one at least of its
-- reports, and no call adds one.
-- Assumes nothing.
use Rattle.std.proofs.Common.{ℕ, zero, suc, ◌+◌, ◌-◌, ◌*◌, ◌≤◌, ◌<◌, max, ◌≡◌, refl, sym, ◌∙◌, ap, Bool, true, false, not, ◌&&◌, ◌||◌, List, [], ◌∷◌, ◌++◌, arith, mul-le-mul_right, ltb, eqb, length, get_or, take, length-append, length-take, eqb-true, eq-eqb, ltb-false}
use Rattle.std.proofs.Math.Option.{Option, none, some, map, some-injective}
use Rattle.std.proofs.Math.ListN.{length-map}
use Rattle.std.proofs.lemmas.Bool.{not-false}
use Rattle.laws.specs.Choice.{when◌then◌else◌}
use Rattle.laws.specs.Members.{All, nil, also}
use Rattle.laws.proofs.Choice.{either, never}
use Rattle.octets.specs.declared.numbers.Kind.{Kind}
use Rattle.octets.specs.declared.numbers.Kind.TheVariants.{Event, Diagnostic}
use Rattle.octets.specs.Numbers.{successful, incapable, report_buffer}
use Rattle.subelements.specs.Subelements.{tables}
use Rattle.requests.specs.declared.Element.{Element}
use Rattle.requests.specs.Requests.{Request}
use Rattle.requests.proofs.Laws.{HasOne}
use Rattle.events.specs.declared.Entry.{Entry}
use Rattle.events.specs.Times.{draft}
use Rattle.events.specs.Log.{time_of, past_log, body_of}
use Rattle.events.specs.Loggings.{LoggedEvent, event_type, entry_with, entry_of, EventLengths}
use Rattle.events.proofs.LoggingLaws.{time_most, time-length, body_fits, body_back}
use Rattle.reports.specs.Reports.{event_element}
use Rattle.reports.proofs.Laws.{element-length}
use Rattle.model.specs.declared.Diagnostic.{Diagnostic as DiagnosticElement}
use Rattle.model.specs.declared.Treatment.{Treatment}
use Rattle.model.specs.declared.Treatment.TheVariants.{Report, Incapable, Cancel, Identity}
use Rattle.model.specs.Model.{Capacities, EventRequest, DiagnosticRequest, Requester, accepted, nothing}
use Rattle.model.specs.Outstanding.{dialog_of}
use Rattle.model.specs.Dialogs.{replace}
use Rattle.model.specs.Fill.{Piece, fill, next_frame}
use Rattle.model.specs.Events.{event_treatment, open_events, take_events, less_place, lowered, next_event_place, gave, without, bare, report_front, treat_front, next_from, next_event, unless_done}
use Rattle.model.specs.Diagnostics.{on_time, unless_over, drop_late, holds_cancel, diagnostic_treatment, diagnostic_of, diagnostics_of, take_diagnostics, diagnostic_report, next_diagnostic}
use Rattle.model.specs.Stations.{tick_requester, dropped_place, lower_requester, log_requester, log_cause, Served, served, take_kind, take_request, room, give_events, give_diagnostics, if_outstanding, octets_of, give_kind, give_report}
use Rattle.model.specs.Independence.{is_accepted}
use Rattle.model.specs.Waiting.{same_kind, frames_in, cancels}
use Rattle.model.proofs.FillLaws.{fill-rest, fill_more, fill_none}
use Rattle.model.proofs.CallLaws.{log-good}
use Rattle.model.proofs.NextEvent.{next-event}

-- ---- a frame takes the next piece of a request, where that fits 257 octets

module _ {R : Type 0} (key size : R → ℕ) (Short : Type 0) where
  -- a next piece leaves the key as it is and a smaller size, and fits
  unfoldable Gives : ℕ → ℕ → Option (Piece R) → Type 0
  Gives n m none = Unit {0}
  Gives n m (some p) = (key p.rest ≡ n) × (size p.rest < m) × (Short → length p.octets ≤ 257)

  gives_one : (n m : ℕ) (p : Piece R) → key p.rest ≡ n → size p.rest < m → (Short → length p.octets ≤ 257) → Gives n m (some p)
  unfolding Gives
  gives_one n m p e h f = (e, h, f)

  gives_more : (n m m' : ℕ) (o : Option (Piece R)) → m ≤ m' → Gives n m o → Gives n m' o
  unfolding Gives
  gives_more n m m' none h g = tt
  gives_more n m m' (some p) h g = (g.0, omega (arith, g.1), g.2)

  module _ (next : R → Option (Piece R)) (gives : (r : R) → Gives (key r) (size r) (next r)) where
    gives_next : (r : R) (p : Piece R) → next r ≡ some p → Gives (key r) (size r) (some p)
    gives_next r p e = rw e at (gives r)

    fill_less : (fuel room : ℕ) (r : R) → (key (fill next fuel room r).rest ≡ key r) × (size (fill next fuel room r).rest ≤ size r)
    unfolding Gives
    fill_less =
        fill-rest next (λ r r'. (key r' ≡ key r) × (size r' ≤ size r)) (λ r. (refl, omega arith))
        (λ r r' p e h. let g = gives_next r p e in (h.0 ∙ g.0, omega (arith, h.1, g.1)))

    -- where something is left to give, one piece at least was taken
    fill_falls : (n : ℕ) (r : R) → 257 ≤ n → Short → (x : Piece R) → next (fill next n n r).rest ≡ some x
        → (size (fill next n n r).rest < size r) × (1 ≤ size (fill next n n r).rest)
    unfolding Gives
    fill_falls zero r h short x e = absurd (omega arith)
    fill_falls (suc n) r h short x e = go (next r) refl
      where
        rest : R
        rest = (fill next (suc n) (suc n) r).rest

        go : (o : Option (Piece R)) → next r ≡ o → (size rest < size r) × (1 ≤ size rest)
        go none q = never (let z : none ≡ some x = sym q ∙ ap next (sym (fill_none next (suc n) (suc n) r q)) ∙ e in cc)
        go (some p) q =
            let g = gives_next r p q in
            let more = fill_more next n (suc n) r p q (omega (arith, g.2 short)) in
            (omega (arith, ap size more, (fill_less n (suc n - length p.octets) p.rest).1, g.1), omega (arith, (gives_next rest x e).1))

-- ---- event requests

-- how many reports an element may still give, by whether its type is reported: one for each place below its bound, or one with no event
reports_of : Bool → ℕ → ℕ → ℕ
reports_of true given below = max (1 - given) below
reports_of false given below = 1

reports_from : EventRequest → List Element → ℕ
reports_from r [] = 0
reports_from r (x ∷ xs) = reports_of (ltb x.ty tables) r.given r.below + reports_from (without r xs) xs

events_left : EventRequest → ℕ
events_left r = reports_from r r.elements

-- a report element fits 257 octets: that of an event that was logged
pub event-fits : (form token stamp reading : ℕ) (x : LoggedEvent) → EventLengths x → log_cause x ≡ 0 → length (event_element form token (entry_of stamp reading x)) ≤ 257
unfolding event_element entry_with
event-fits form token stamp reading x w good =
    let time : List ℕ = time_of form (entry_of stamp reading x) in
    let body : List ℕ = body_of (entry_of stamp reading x) in
    omega (
      arith,
      element-length Event token (event_type x) successful (time ++ body),
      length-append time body,
      time-length form stamp reading x w,
      time_most form,
      ap length (body_back stamp reading x),
      body_fits reading x w (log-good x good).1,
    )

bare-fits : (x : Element) (status : ℕ) → length (bare x status) ≤ 257
bare-fits x status = omega (arith, element-length Event x.token x.ty status [])

unfoldable pub ShortEntry : Entry → Type 0
ShortEntry e = (form token : ℕ) → length (event_element form token e) ≤ 257

past-time : (form : ℕ) → time_of form past_log ≡ []
past-time form = either (λ (l : List ℕ). l ≡ []) (eqb form draft) _ _ (λ _. refl) (λ _. refl)

short-at : (log : List Entry) → All ShortEntry log → (p : ℕ) → ShortEntry (get_or log p past_log)
unfolding ShortEntry event_element
short-at [] nil p = λ form token. rw (past-time form) (omega (arith, element-length Event token 0 successful []))
short-at (e ∷ log) (also h hs) zero = h
short-at (e ∷ log) (also h hs) (suc p) = short-at log hs p

module _ (since : ℕ → ℕ → ℕ) (form : ℕ) (log : List Entry) where
  abbrev GivesEvents : ℕ → ℕ → Option (Piece EventRequest) → Type 0
  GivesEvents = Gives (λ (r : EventRequest). r.dialog) events_left (All ShortEntry log)

  front_gives : (r : EventRequest) (x : Element) (xs : List Element) (behind : Option (Piece EventRequest)) → r.elements ≡ x ∷ xs → ltb x.ty tables ≡ true
      → GivesEvents r.dialog (reports_from (without r xs) xs) behind → (o : Option ℕ) → next_event_place since log r x ≡ o
      → GivesEvents r.dialog (reports_of true r.given r.below + reports_from (without r xs) xs) (report_front form log r x xs behind o)
  unfolding report_front reports_from reports_of events_left gave without ShortEntry
  front_gives r x xs behind l t h (some place) e =
      let older = (next-event.given since log r x place e).eligible.older in
      gives_one _ _ _ _ _ _ refl (rw (l, t) (omega (arith, older))) (λ short. short-at log short place form x.token)
  front_gives r x xs behind l t h none e =
      either (GivesEvents r.dialog (reports_of true r.given r.below + reports_from (without r xs) xs)) _ _ behind
      (λ z. gives_one _ _ _ _ _ _ refl (omega (arith, eqb-true r.given 0 z)) (λ _. bare-fits x successful)) (λ _. gives_more _ _ _ r.dialog _ _ behind (omega arith) h)

  from_gives : (r : EventRequest) (xs : List Element) → r.elements ≡ xs → GivesEvents r.dialog (reports_from r xs) (next_from since form log r xs)
  unfolding next_from event_treatment treat_front reports_from reports_of events_left without Gives when◌then◌else◌
  from_gives r [] l = tt
  from_gives r (x ∷ xs) l = by_type (ltb x.ty tables) refl (from_gives (without r xs) xs refl)
    where
      behind : Option (Piece EventRequest)
      behind = next_from since form log (without r xs) xs

      by_type : (b : Bool) → ltb x.ty tables ≡ b → GivesEvents r.dialog (reports_from (without r xs) xs) behind
          → GivesEvents r.dialog (reports_of b r.given r.below + reports_from (without r xs) xs) (treat_front since form log r x xs behind (when b then Report else Incapable))
      by_type true t h = front_gives r x xs behind l t h (next_event_place since log r x) refl
      by_type false t h = (refl, omega arith, λ _. bare-fits x incapable)

  next_gives : (r : EventRequest) → GivesEvents r.dialog (events_left r) (next_event since form log r)
  unfolding next_event events_left
  next_gives r = from_gives r r.elements refl

-- a drop from the log adds none
less-place : (place n : ℕ) → less_place place n ≤ n
unfolding less_place
less-place place n = either (λ (m : ℕ). m ≤ n) _ _ _ (λ _. omega arith) (λ _. omega arith)

reports_fewer : (b : Bool) (given below below' : ℕ) → below' ≤ below → reports_of b given below' ≤ reports_of b given below
unfolding reports_of
reports_fewer true given below below' h = omega arith
reports_fewer false given below below' h = omega arith

lowered_fewer : (place : ℕ) (r : EventRequest) (xs : List Element) → reports_from (lowered place r) xs ≤ reports_from r xs
unfolding reports_from lowered without
lowered_fewer place r [] = omega arith
lowered_fewer place r (x ∷ xs) =
    omega (arith, reports_fewer (ltb x.ty tables) r.given r.below (less_place place r.below) (less-place place r.below), lowered_fewer place (without r xs) xs)

-- of a log of at most so many entries
reports_few : (b : Bool) (given below most : ℕ) → 1 ≤ most → below ≤ most → reports_of b given below ≤ most
unfolding reports_of
reports_few true given below most one h = omega arith
reports_few false given below most one h = omega arith

from_few : (most : ℕ) → 1 ≤ most → (r : EventRequest) (xs : List Element) → r.below ≤ most → r.mark ≤ most → reports_from r xs ≤ length xs * most
unfolding reports_from without
from_few most one r [] h j = omega arith
from_few most one r (x ∷ xs) h j = omega (arith, reports_few (ltb x.ty tables) r.given r.below most one h, from_few most one (without r xs) xs j j)

-- ---- diagnostic requests

diagnostics_left : DiagnosticRequest → ℕ
diagnostics_left q = length q.elements

module _ (identity : List ℕ) where
  -- a report element fits 257 octets: that of a diagnostic
  pub diagnostic_fits : (x : DiagnosticElement) (t : Treatment) → length identity ≤ 252 → length (diagnostic_report identity x t) ≤ 257
  unfolding diagnostic_report
  diagnostic_fits x Identity h = omega (arith, element-length Diagnostic x.token x.ty successful identity)
  diagnostic_fits x Incapable h = omega (arith, element-length Diagnostic x.token x.ty incapable [])
  diagnostic_fits x Cancel h = omega (arith, element-length Diagnostic x.token x.ty incapable [])
  diagnostic_fits x Report h = omega (arith, element-length Diagnostic x.token x.ty incapable [])

  diagnostic_gives : (xs : List DiagnosticElement) → Gives (λ (_ : List DiagnosticElement). 0) length (length identity ≤ 252) 0 (length xs) (next_diagnostic identity xs)
  unfolding next_diagnostic Gives
  diagnostic_gives [] = tt
  diagnostic_gives (x ∷ xs) = (refl, omega arith, diagnostic_fits x (diagnostic_treatment x.ty))

  some_next : (xs : List DiagnosticElement) → 1 ≤ length xs → (p : Piece (List DiagnosticElement)) × (next_diagnostic identity xs ≡ some p)
  unfolding next_diagnostic
  some_next [] h = absurd (omega arith)
  some_next (x ∷ xs) h = (_, refl)

on_time_fewer : (since : ℕ → ℕ → ℕ) (now a : ℕ) (xs : List DiagnosticElement) → length (on_time since now a xs) ≤ length xs
unfolding on_time
on_time_fewer since now a [] = omega arith
on_time_fewer since now a (x ∷ xs) =
    let h = on_time_fewer since now a xs in
    either (λ (ys : List DiagnosticElement). length ys ≤ suc (length xs)) _ _ _ (λ _. omega arith) (λ _. omega arith)

-- ---- what becomes of a request with the dialog token n

-- how many frames a request may still give: one at least, header_only where nothing is left
left_of : {R : Type 0} → (R → ℕ) → Option R → ℕ
left_of size none = 1
left_of size (some q) = max 1 (size q)

left_of_one : {R : Type 0} (size : R → ℕ) (o : Option R) → 1 ≤ left_of size o
unfolding left_of
left_of_one size none = omega arith
left_of_one size (some q) = omega arith

pub left : Kind → Requester → ℕ
left Event r = left_of events_left r.events
left Diagnostic r = left_of diagnostics_left r.diagnostics

pub left_one : (kind : Kind) (r : Requester) → 1 ≤ left kind r
unfolding left
left_one Event r = left_of_one events_left r.events
left_one Diagnostic r = left_of_one diagnostics_left r.diagnostics

-- by whether it is replaced or ended, the frames that are given of it, how many could be before, the dialog token that is outstanding
-- afterwards, and how many can be then
pub data Fate (Short : Type 0) (n : ℕ) (ended : Bool) (frames before : ℕ) (d : Option ℕ) (after : ℕ) : Type 0 where
  stays : ended ≡ false → d ≡ some n → (Short → frames + after ≤ before) → Fate Short n ended frames before d after
  over : ended ≡ false → d ≡ none → Fate Short n ended frames before d after
  gone : ended ≡ true → (d ≡ some n → ⊥) → Fate Short n ended frames before d after

abbrev event_dialog : EventRequest → ℕ
event_dialog q = q.dialog

abbrev diagnostic_dialog : DiagnosticRequest → ℕ
diagnostic_dialog q = q.dialog

module _ (Short : Type 0) (n : ℕ) where
  abbrev FateOf : {R : Type 0} → (R → ℕ) → (R → ℕ) → Bool → ℕ → Option R → Option R → Type 0
  FateOf dialog size ended frames o o' = Fate Short n ended frames (left_of size o) (map dialog o') (left_of size o')

  -- of a requester's request of a kind
  abbrev pub FateIn : Kind → Bool → ℕ → Requester → Requester → Type 0
  FateIn kind ended frames r r' = Fate Short n ended frames (left kind r) (dialog_of kind r') (left kind r')

  -- one is outstanding
  of_some : {R : Type 0} (dialog : R → ℕ) (P : Option R → Type 0) → ((q : R) → dialog q ≡ n → P (some q)) → (o : Option R) → map dialog o ≡ some n → P o
  of_some dialog P f none e = never cc
  of_some dialog P f (some q) e = f q (some-injective _ _ e)

  is_token : (d : ℕ) → d ≡ n → ◌≡◌ {A = Option ℕ} (some d) (some n)
  is_token d e = ap (λ (m : ℕ). some m) e

  -- a diagnostic request of which these elements are left
  over_fate : (d a frames before : ℕ) (xs : List DiagnosticElement) → d ≡ n → (Short → 1 ≤ length xs → frames + length xs ≤ before)
      → Fate Short n false frames before (map diagnostic_dialog (unless_over d a xs)) (left_of diagnostics_left (unless_over d a xs))
  unfolding unless_over left_of diagnostics_left
  over_fate d a frames before [] e h = over refl refl
  over_fate d a frames before (x ∷ xs) e h = stays refl (is_token d e) (λ s. omega (arith, h s (omega arith)))

  -- ---- the clock and the log

  pub tick_fate : (since : ℕ → ℕ → ℕ) (now : ℕ) (kind : Kind) (r : Requester) → dialog_of kind r ≡ some n → FateIn kind false 0 r (tick_requester since now r)
  unfolding dialog_of left tick_requester drop_late left_of diagnostics_left
  tick_fate since now Event r e = stays refl e (λ _. omega arith)
  tick_fate since now Diagnostic r e =
      of_some diagnostic_dialog (λ o. FateOf diagnostic_dialog diagnostics_left false 0 o (drop_late since now o))
      (λ q p. over_fate q.dialog q.accepted 0 _ _ p (λ _ _. omega (arith, on_time_fewer since now q.accepted q.elements))) r.diagnostics e

  lower_fate : (kind : Kind) (r : Requester) → dialog_of kind r ≡ some n → FateIn kind false 0 r (lower_requester r)
  unfolding dialog_of left lower_requester lowered left_of events_left
  lower_fate Event r e =
      of_some event_dialog (λ o. FateOf event_dialog events_left false 0 o (map (lowered dropped_place) o))
      (λ q p. stays refl (is_token q.dialog p) (λ _. omega (arith, lowered_fewer dropped_place q q.elements))) r.events e
  lower_fate Diagnostic r e = stays refl e (λ _. omega arith)

  pub log_fate : (most : Capacities) (log : List Entry) (kind : Kind) (r : Requester) → dialog_of kind r ≡ some n → FateIn kind false 0 r (log_requester most log r)
  unfolding log_requester
  log_fate most log kind r e = either (FateIn kind false 0 r) _ _ _ (λ _. stays refl e (λ _. omega arith)) (λ _. lower_fate kind r e)

  -- ---- a frame of its own requester

  -- with the token d, which may replace it by one with that token
  replace_fate : {R : Type 0} (dialog size : R → ℕ) (d : ℕ) (new : Option R) → ((x : R) → new ≡ some x → dialog x ≡ d) → (o : Option R) → map dialog o ≡ some n
      → FateOf dialog size (not (eqb d n)) 0 o (replace (λ r. eqb d (dialog r)) new o)
  unfolding replace when◌then◌else◌
  replace_fate {R} dialog size d new named = of_some dialog _ (λ r p. rw (ap (eqb d) (sym p)) (go r p (eqb d (dialog r)) refl))
    where
      is : (o : Option R) → new ≡ o → map dialog o ≡ some n → d ≡ n
      is none p q = never cc
      is (some x) p q = sym (named x p) ∙ some-injective _ _ q

      go : (r : R) → dialog r ≡ n → (b : Bool) → eqb d (dialog r) ≡ b → FateOf dialog size (not b) 0 (some r) (when b then some r else new)
      go r p true e = stays refl (is_token (dialog r) p) (λ _. omega arith)
      go r p false e = gone refl (λ q. never (sym e ∙ eq-eqb d (dialog r) (is new refl q ∙ sym p)))

  open_named : (logged : ℕ) (q : Request) (r : EventRequest) → some (open_events logged q) ≡ some r → r.dialog ≡ q.dialog
  unfolding open_events
  open_named logged q r e = ap event_dialog (sym (some-injective _ r e))

  over-named : (d a : ℕ) (xs : List DiagnosticElement) (q : DiagnosticRequest) → unless_over d a xs ≡ some q → q.dialog ≡ d
  unfolding unless_over
  over-named d a [] q e = never cc
  over-named d a (x ∷ xs) q e = ap diagnostic_dialog (sym (some-injective _ q e))

  module _ (now : ℕ) (log : List Entry) (q : Request) where
    abbrev ends : Kind → Kind → Bool
    ends asked kind = same_kind asked kind && (cancels kind q || not (eqb q.dialog n))

    kind_fate : (asked kind : Kind) (r : Requester) → dialog_of kind r ≡ some n → FateIn kind (ends asked kind) 0 r (take_kind now log q r asked)
    unfolding dialog_of left take_kind take_events take_diagnostics cancels left_of when◌then◌else◌
    kind_fate Event Event r e = replace_fate event_dialog events_left q.dialog _ (open_named (length log) q) r.events e
    kind_fate Event Diagnostic r e = stays refl e (λ _. omega arith)
    kind_fate Diagnostic Event r e = stays refl e (λ _. omega arith)
    kind_fate Diagnostic Diagnostic r e = go (holds_cancel (diagnostics_of q))
      where
        go : (b : Bool) → FateOf diagnostic_dialog diagnostics_left (b || not (eqb q.dialog n)) 0 r.diagnostics
            (when b then none else replace (λ x. eqb q.dialog x.dialog) (unless_over q.dialog now (diagnostics_of q)) r.diagnostics)
        go true = gone refl (λ z. never cc)
        go false = replace_fate diagnostic_dialog diagnostics_left q.dialog _ (over-named q.dialog now (diagnostics_of q)) r.diagnostics e

    pub take_fate : (kind : Kind) (r : Requester) → dialog_of kind r ≡ some n
        → FateIn kind (is_accepted (take_request now log q r).answer && (same_kind q.kind kind && (cancels kind q || not (eqb q.dialog n)))) 0 r (take_request now log q r).requester
    unfolding take_request is_accepted
    take_fate kind r e =
        either (λ (x : Served). FateIn kind (is_accepted x.answer && ends q.kind kind) 0 r x.requester) _ _ _
        (λ _. stays refl e (λ _. omega arith)) (λ _. kind_fate q.kind kind r e)

-- an accepted frame that is no Cancel leaves its own token
module _ (now : ℕ) (log : List Entry) (q : Request) (some-asked : HasOne q) where
  replaced_named : {R : Type 0} (dialog : R → ℕ) (new : Option R) → map dialog new ≡ some q.dialog → (o : Option R)
      → map dialog (replace (λ r. eqb q.dialog (dialog r)) new o) ≡ some q.dialog
  unfolding replace
  replaced_named dialog new e none = e
  replaced_named {R} dialog new e (some r) =
      either (λ (o : Option R). map dialog o ≡ some q.dialog) _ _ _ (λ h. ap (λ (m : ℕ). some m) (sym (eqb-true q.dialog (dialog r) h))) (λ _. e)

  new-named : (xs : List DiagnosticElement) → 1 ≤ length xs → map diagnostic_dialog (unless_over q.dialog now xs) ≡ some q.dialog
  unfolding unless_over
  new-named [] h = absurd (omega arith)
  new-named (x ∷ xs) h = refl

  kind_named : q.refusal.number ≡ 0 → (kind : Kind) → q.kind ≡ kind → cancels kind q ≡ false → (r : Requester) → dialog_of kind (take_kind now log q r kind) ≡ some q.dialog
  unfolding dialog_of take_kind take_events take_diagnostics open_events cancels diagnostics_of when◌then◌else◌
  kind_named z Event k c r = replaced_named event_dialog _ refl r.events
  kind_named z Diagnostic k c r =
      rw c (replaced_named diagnostic_dialog _ (new-named (diagnostics_of q) (omega (arith, some-asked.one z k, length-map (take q.count q.elements) diagnostic_of))) r.diagnostics)

  pub take-named : cancels q.kind q ≡ false → (r : Requester) → (take_request now log q r).answer ≡ accepted → dialog_of q.kind (take_request now log q r).requester ≡ some q.dialog
  unfolding take_request
  take-named c r =
      either (λ (x : Served). x.answer ≡ accepted → dialog_of q.kind x.requester ≡ some q.dialog) _ _ _ (λ _ e. never cc)
      (λ h _. kind_named (eqb-true _ 0 (not-false _ h)) q.kind refl c r)

-- ---- a report call of its own requester

-- the report elements fit
abbrev pub Short : List Entry → Option (List ℕ) → Type 0
Short log i = All ShortEntry log × (length (octets_of i) ≤ 252)

if-outstanding : {Q : Type 0} (P : Served → Type 0) (give : Q → Served) (r : Requester) (b : List ℕ) (o : Option Q) → P (served r nothing b) → ((q : Q) → o ≡ some q → P (give q))
    → P (if_outstanding give r b o)
unfolding if_outstanding
if-outstanding P give r b none x f = x
if-outstanding P give r b (some q) x f = f q refl

module _ (since : ℕ → ℕ → ℕ) (i : Option (List ℕ)) (log : List Entry) (b : List ℕ) (n : ℕ) where
  -- by the kind that is asked for, and the request's
  abbrev GivenFate : Kind → Kind → Requester → Served → Type 0
  GivenFate asked kind r x = FateIn (Short log i) n kind false (when same_kind asked kind then frames_in x.answer else 0) r x.requester

  module _ (long : report_buffer ≤ length b) where
    events-given : (r : Requester) (q : EventRequest) → q.dialog ≡ n → FateOf (Short log i) n event_dialog events_left false 1 (some q) (give_events since log b r q).requester.events
    unfolding give_events next_frame unless_done left_of
    events-given r q e = go (next_event since r.form log rest) refl
      where
        size : ℕ
        size = room b - 3

        rest : EventRequest
        rest = (fill (next_event since r.form log) size size q).rest

        go : (o : Option (Piece EventRequest)) → next_event since r.form log rest ≡ o → FateOf (Short log i) n event_dialog events_left false 1 (some q) (unless_done rest o)
        go none p = over refl refl
        go (some x) p =
            stays refl (is_token (Short log i) n rest.dialog ((fill_less _ _ _ (next_event since r.form log) (next_gives since r.form log) size size q).0 ∙ e))
            (λ s. omega (arith, fill_falls _ _ _ (next_event since r.form log) (next_gives since r.form log) size q (omega arith) s.0 x p))

    diagnostics-given : (r : Requester) (q : DiagnosticRequest) → q.dialog ≡ n
        → FateOf (Short log i) n diagnostic_dialog diagnostics_left false 1 (some q) (give_diagnostics (octets_of i) b r q).requester.diagnostics
    unfolding give_diagnostics next_frame left_of diagnostics_left
    diagnostics-given r q e = over_fate (Short log i) n q.dialog q.accepted 1 _ rest e more
      where
        size : ℕ
        size = room b - 3

        rest : List DiagnosticElement
        rest = (fill (next_diagnostic (octets_of i)) size size q.elements).rest

        more : Short log i → 1 ≤ length rest → 1 + length rest ≤ max 1 (length q.elements)
        more s one =
            let x = some_next (octets_of i) rest one in
            omega (arith, fill_falls _ _ _ (next_diagnostic (octets_of i)) (diagnostic_gives (octets_of i)) size q.elements (omega arith) s.1 x.0 x.1)

    give_kind_fate : (asked kind : Kind) (r : Requester) → dialog_of kind r ≡ some n → GivenFate asked kind r (give_kind since i log b r asked)
    unfolding give_kind give_events give_diagnostics dialog_of left frames_in when◌then◌else◌
    give_kind_fate Event Event r e =
        if-outstanding (GivenFate Event Event r) _ r b r.events (stays refl e (λ _. omega arith)) (λ q p. rw p (events-given r q (some-injective _ _ (rw p at e))))
    give_kind_fate Diagnostic Diagnostic r e =
        if-outstanding (GivenFate Diagnostic Diagnostic r) _ r b r.diagnostics (stays refl e (λ _. omega arith)) (λ q p. rw p (diagnostics-given r q (some-injective _ _ (rw p at e))))
    give_kind_fate Event Diagnostic r e = if-outstanding (GivenFate Event Diagnostic r) _ r b r.events (stays refl e (λ _. omega arith)) (λ q p. stays refl e (λ _. omega arith))
    give_kind_fate Diagnostic Event r e = if-outstanding (GivenFate Diagnostic Event r) _ r b r.diagnostics (stays refl e (λ _. omega arith)) (λ q p. stays refl e (λ _. omega arith))

  pub give_fate : (asked kind : Kind) (r : Requester) → dialog_of kind r ≡ some n → let x = give_report since i log asked b r in
      FateIn (Short log i) n kind false (when same_kind asked kind then frames_in x.answer else 0) r x.requester
  unfolding give_report frames_in
  give_fate asked kind r e =
      either (GivenFate asked kind r) _ _ _
      (λ _. stays refl e (λ _. either (λ (f : ℕ). f + left kind r ≤ left kind r) (same_kind asked kind) 0 0 (λ _. omega arith) (λ _. omega arith)))
      (λ h. give_kind_fate (ltb-false (length b) report_buffer h) asked kind r e)

-- ---- a request that is just opened

-- how many frames a request has at most, and what is needed of a station for that
unfoldable pub most_frames : Capacities → Kind → ℕ
most_frames most Event = most.elements * most.events
most_frames most Diagnostic = most.elements

unfoldable pub Enough : Capacities → List Entry → Kind → Type 0
Enough most log Event = (1 ≤ most.events) × (1 ≤ most.elements) × (length log ≤ most.events)
Enough most log Diagnostic = Unit {0}

module _ (most : Capacities) (q : Request) (few : q.count ≤ most.elements) where
  open_few : 1 ≤ most.events → 1 ≤ most.elements → (logged : ℕ) → logged ≤ most.events → (r : EventRequest) → some (open_events logged q) ≡ some r
      → max 1 (events_left r) ≤ most.elements * most.events
  unfolding open_events events_left
  open_few one some-elements logged h r e =
      let xs = take q.count q.elements in
      let m : length xs ≤ most.elements = omega (arith, length-take q.count q.elements) in
      omega (
        arith,
        ap events_left (some-injective _ r e),
        from_few most.events one (open_events logged q) xs h h,
        mul-le-mul_right most.events m,
        mul-le-mul_right most.events some-elements,
      )

  over_few : (d a : ℕ) (r : DiagnosticRequest) → unless_over d a (diagnostics_of q) ≡ some r → max 1 (diagnostics_left r) ≤ most.elements
  unfolding diagnostics_of diagnostics_left unless_over
  over_few d a r = go (diagnostics_of q) (omega (arith, length-map (take q.count q.elements) diagnostic_of, length-take q.count q.elements))
    where
      go : (xs : List DiagnosticElement) → length xs ≤ most.elements → unless_over d a xs ≡ some r → max 1 (length r.elements) ≤ most.elements
      go [] h e = never cc
      go (x ∷ xs) h e = omega (arith, ap diagnostics_left (some-injective _ r e))

  module _ (n : ℕ) where
    -- what replaces a request that had another dialog token
    module _ {R : Type 0} (dialog size : R → ℕ) (bound : ℕ) (new : Option R) (new-few : (x : R) → new ≡ some x → max 1 (size x) ≤ bound) where
      is_few : (o : Option R) → new ≡ o → map dialog o ≡ some n → left_of size o ≤ bound
      unfolding left_of
      is_few none p e = never cc
      is_few (some x) p e = new-few x p

      replaced_few : (o : Option R) → (map dialog o ≡ some n → ⊥) → map dialog (replace (λ r. eqb q.dialog (dialog r)) new o) ≡ some n
          → left_of size (replace (λ r. eqb q.dialog (dialog r)) new o) ≤ bound
      unfolding replace
      replaced_few none was = is_few new refl
      replaced_few (some r) was = either (λ (x : Option R). map dialog x ≡ some n → left_of size x ≤ bound) _ _ _ (λ _ e. absurd (was e)) (λ _. is_few new refl)

    module _ (now : ℕ) (log : List Entry) where
      kind_opens : (asked kind : Kind) → Enough most log kind → (r : Requester) → (dialog_of kind r ≡ some n → ⊥)
          → dialog_of kind (take_kind now log q r asked) ≡ some n → left kind (take_kind now log q r asked) ≤ most_frames most kind
      unfolding dialog_of left take_kind take_events take_diagnostics most_frames Enough
      kind_opens Event Event h r was = replaced_few event_dialog events_left (most_frames most Event) _ (open_few h.0 h.1 (length log) h.2) r.events was
      kind_opens Event Diagnostic h r was = λ e. absurd (was e)
      kind_opens Diagnostic Event h r was = λ e. absurd (was e)
      kind_opens Diagnostic Diagnostic h r was =
          either (λ (o : Option DiagnosticRequest). map diagnostic_dialog o ≡ some n → left_of diagnostics_left o ≤ most_frames most Diagnostic) _ _ _ (λ _ e. never cc)
          (λ _. replaced_few diagnostic_dialog diagnostics_left (most_frames most Diagnostic) _ (over_few q.dialog now) r.diagnostics was)

      pub take-opens : (kind : Kind) → Enough most log kind → (r : Requester) → (dialog_of kind r ≡ some n → ⊥)
          → dialog_of kind (take_request now log q r).requester ≡ some n → left kind (take_request now log q r).requester ≤ most_frames most kind
      unfolding take_request
      take-opens kind h r was =
          either (λ (x : Served). dialog_of kind x.requester ≡ some n → left kind x.requester ≤ most_frames most kind) _ _ _
          (λ _ e. absurd (was e)) (λ _. kind_opens q.kind kind h r was)
