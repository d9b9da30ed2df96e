-- What an event request gives in all from a log that stays: one element after the other (`GivesAll`), a frame after the other (`Fills`), and
-- a call after the other, by what its requester sees of the station.
-- Assumes nothing.
use Rattle.std.proofs.Common.{ℕ, zero, suc, ◌+◌, ◌-◌, ◌≤◌, ◌<◌, min, ◌≡◌, refl, sym, ap, ◌∙◌, Bool, true, false, not, List, [], ◌∷◌, ◌++◌, map, append_assoc, arith, eqb, ltb, leb, length, get_or, take, drop, take-append-drop, take-add, eqb-true, eq-eqb, ne_eqb, ltb-true, ltb-false, le-ltb}
use Rattle.std.proofs.Math.Option.{Option, none, some, some-injective}
use Rattle.std.proofs.Math.Seq.{take-nil, take-append_seam}
use Rattle.std.specs.List.{concat}
use Rattle.std.proofs.Math.Option
use Rattle.laws.specs.Choice.{when◌then◌else◌}
use Rattle.laws.proofs.Choice.{either, never}
use Rattle.laws.specs.Buffers.{onto}
use Rattle.laws.specs.Members.{All, also}
use Rattle.octets.specs.declared.numbers.Kind.{Kind}
use Rattle.octets.specs.declared.numbers.Kind.TheVariants.{Event, Diagnostic}
use Rattle.octets.specs.Addresses.{same, is_group}
use Rattle.octets.proofs.AddressLaws.{same_refl, same_true}
use Rattle.octets.specs.Numbers.{successful, incapable, category, report_action}
use Rattle.octets.specs.Refusals.{group_destination, unknown_requester}
use Rattle.requests.specs.declared.Element.{Element}
use Rattle.requests.specs.Requests.{read_request, Request}
use Rattle.events.specs.declared.Entry.{Entry}
use Rattle.events.specs.Log.{past_log}
use Rattle.events.specs.Choice.{last_of, all_of}
use Rattle.events.specs.Conditions.{meets}
use Rattle.events.proofs.ChoiceLaws.{last_some, all_none, all_last}
use Rattle.reports.specs.Reports.{event_element}
use Rattle.model.specs.declared.Treatment.{Treatment}
use Rattle.model.specs.declared.Treatment.TheVariants.{Report, Incapable, Cancel, Identity}
use Rattle.model.specs.Clocks.{Clock, advanced}
use Rattle.model.specs.Model.{Capacities, Address, EventRequest, DiagnosticRequest, Requester, Station, Call, clock, logging, frame, report, roam, change, Answer, accepted, nothing, of_length, turned_away}
use Rattle.model.specs.Requesters.{find, form_in, form_of}
use Rattle.model.specs.Dialogs.{replace}
use Rattle.model.specs.Outstanding.{dialog_of, dialog_in, outstanding_dialog}
use Rattle.model.specs.Fill.{Piece, before, nothing_more, fill_with, fill, next_frame}
use Rattle.model.specs.Events.{event_treatment, open_events, take_events, eligible_places, next_event_place, gave, without, bare, report_front, treat_front, next_from, next_event, unless_done}
use Rattle.model.specs.Stations.{refused_for, tick_requester, Served, served, take_kind, take_request, room, give_events, give_diagnostics, if_outstanding, octets_of, give_kind, give_report, reading_of, step}
use Rattle.model.specs.Runs.{run, sender, Reply, reply, to_sender}
use Rattle.model.specs.Independence.{quiet_for, quiet}
use Rattle.model.specs.NewestFirst.{latest_matches, or_bare, treated_reports, request_reports, behind_header, events_in, events_of, events_given, LetsBe, GivenInOrder, NewestFirst}
use Rattle.model.proofs.Seen.{Seen, seen, tick_seen, served_seen, act_seen, step_seen, seen_step, quiet_step, served_reply, seen_reply, step_reply, seen-reply, kind_keeps, give_keeps}

-- ---- the places that one element gives

take_more : {A : Type 0} (n : ℕ) (x : A) (xs : List A) → 0 < n → take n (x ∷ xs) ≡ x ∷ take (n - 1) xs
take_more zero x xs h = absurd (omega arith)
take_more (suc n) x xs h = let e : suc n - 1 ≡ n = omega arith in rw e

-- a request whose front element gave none yet: its search is at the mark
record Fresh (r : EventRequest) : Type 0 where
  pub none_given : r.given ≡ 0
  pub opens : r.below ≡ r.mark

module _ (since : ℕ → ℕ → ℕ) (log : List Entry) where
  module _ (x : Element) where
    -- the places that the front element x of a request gives, one after the other, until it has no next event
    data GivesPlaces : EventRequest → List ℕ → Type 0 where
      over : {r : EventRequest} → next_event_place since log r x ≡ none → GivesPlaces r []
      another : {r : EventRequest} {p : ℕ} {ps : List ℕ} → next_event_place since log r x ≡ some p → GivesPlaces (gave r p) ps → GivesPlaces r (p ∷ ps)

    abbrev test : ℕ → Bool
    test = meets since log x.ty x.filter

    -- what an element that came so far still gives
    abbrev still : EventRequest → List ℕ
    still r = take (x.limit - r.given) (all_of test (eligible_places log r))

    none_still : (r : EventRequest) → last_of test (eligible_places log r) ≡ none → still r ≡ []
    none_still r e = ap (take (x.limit - r.given)) (all_none _ _ e) ∙ take-nil (x.limit - r.given)

    -- a place given lies in the log, and the search goes on below it
    one-still : (r : EventRequest) (p : ℕ) → r.given < x.limit → last_of test (eligible_places log r) ≡ some p → still r ≡ p ∷ still (gave r p)
    unfolding gave
    one-still r p h e =
        let m : min p (min r.mark (length log)) ≡ p = omega (arith, (last_some _ _ p e).within) in
        let n : x.limit - r.given - 1 ≡ x.limit - suc r.given = omega arith in
        ap (take (x.limit - r.given)) (all_last _ _ p e) ∙ rw (m) (take_more (x.limit - r.given) p _ (omega arith) ∙ rw n)

    -- fuel: a bound of what is left to give
    gives-still : (fuel : ℕ) (r : EventRequest) → x.limit ≤ r.given + fuel → GivesPlaces r (still r)
    unfolding next_event_place gave when◌then◌else◌
    gives-still zero r h =
        let e : x.limit - r.given ≡ 0 = omega arith in
        rw e (over {r = r} (rw (le-ltb r.given x.limit (omega arith))))
    gives-still (suc fuel) r h = at (ltb r.given x.limit) refl (last_of test (eligible_places log r)) refl (λ p. gives-still fuel (gave r p) (omega arith))
      where
        at : (b : Bool) → ltb r.given x.limit ≡ b → (o : Option ℕ) → last_of test (eligible_places log r) ≡ o
            → ((p : ℕ) → GivesPlaces (gave r p) (still (gave r p)))
            → GivesPlaces r (still r)
        at false i o j rest =
            let e : x.limit - r.given ≡ 0 = omega (arith, ltb-false r.given x.limit i) in
            rw e (over {r = r} (rw i))
        at true i none j rest = rw (none_still r j) (over {r = r} (rw (i, j)))
        at true i (some p) j rest = rw (one-still r p (ltb-true r.given x.limit i) j) (another {r = r} {p = p} (rw (i, j)) (rest p))

    fresh_gives : (r : EventRequest) → Fresh r → GivesPlaces r (latest_matches since log r.mark x)
    unfolding latest_matches
    fresh_gives r f =
        let n : x.limit - r.given ≡ x.limit = omega (arith, f.none_given) in
        let m : eligible_places log r ≡ min r.mark (length log) = omega (arith, f.opens) in
        rw (n, m) at (gives-still x.limit r (omega arith))

-- ---- the pieces that a request gives, one after the other, until it has none

pub data GivesAll {R : Type 0} (next : R → Option (Piece R)) : R → List (List ℕ) → Type 0 where
  done : {r : R} → next r ≡ none → GivesAll next r []
  more : {r : R} {p : Piece R} {os : List (List ℕ)} → next r ≡ some p → GivesAll next p.rest os → GivesAll next r (p.octets ∷ os)

same_next : {R : Type 0} (next : R → Option (Piece R)) (r r' : R) (os : List (List ℕ)) → next r ≡ next r' → GivesAll next r' os → GivesAll next r os
same_next next r r' _ e (done f) = done (e ∙ f)
same_next next r r' _ e (more f g) = more (e ∙ f) g

module _ (since : ℕ → ℕ → ℕ) (form : ℕ) (log : List Entry) where
  abbrev next : EventRequest → Option (Piece EventRequest)
  next = next_event since form log

  module _ (x : Element) (xs : List Element) where
    front_is : (r : EventRequest) → r.elements ≡ x ∷ xs → next r ≡ treat_front since form log r x xs (next (without r xs)) (event_treatment x.ty)
    unfolding next_event next_from without
    front_is r h = ap (next_from since form log r) h

    abbrev piece : ℕ → List ℕ
    piece p = event_element form x.token (get_or log p past_log)

    module _ (reports : event_treatment x.ty ≡ Report) (os : List (List ℕ)) where
      report-is : (r : EventRequest) → r.elements ≡ x ∷ xs → (o : Option ℕ) → next_event_place since log r x ≡ o → next r ≡ report_front form log r x xs (next (without r xs)) o
      unfolding treat_front
      report-is r h o e = front_is r h ∙ rw (reports, e)

      on_event : (r : EventRequest) (p : ℕ) → r.elements ≡ x ∷ xs → next_event_place since log r x ≡ some p → next r ≡ some (record { octets = piece p; rest = gave r p })
      unfolding report_front
      on_event r p h e = report-is r h (some p) e

      on_over : (r : EventRequest) → r.elements ≡ x ∷ xs → 0 < r.given → next_event_place since log r x ≡ none → next r ≡ next (without r xs)
      unfolding report_front when◌then◌else◌
      on_over r h k e = report-is r h none e ∙ rw (ne_eqb r.given 0 (omega arith))

      on_none : (r : EventRequest) → r.elements ≡ x ∷ xs → r.given ≡ 0 → next_event_place since log r x ≡ none → next r ≡ some (record { octets = bare x successful; rest = without r xs })
      unfolding report_front when◌then◌else◌
      on_none r h k e = report-is r h none e ∙ rw (eq-eqb r.given 0 k)

      -- an element that gave some
      goes_on : (ps : List ℕ) (r : EventRequest) → r.elements ≡ x ∷ xs → 0 < r.given → GivesPlaces since log x r ps → GivesAll next (without r xs) os → GivesAll next r (map piece ps ++ os)
      unfolding gave without
      goes_on _ r h k (over e) g = same_next next r (without r xs) os (on_over r h k e) g
      goes_on _ r h k (another {p = p} {ps = ps} e f) g = more (on_event r p h e) (goes_on ps (gave r p) h (omega arith) f g)

      -- one that gave none yet
      begins : (ps : List ℕ) (r : EventRequest) → r.elements ≡ x ∷ xs → r.given ≡ 0 → GivesPlaces since log x r ps → GivesAll next (without r xs) os → GivesAll next r (or_bare x (map piece ps) ++ os)
      unfolding gave without or_bare
      begins _ r h k (over e) g = more (on_none r h k e) g
      begins _ r h k (another {p = p} {ps = ps} e f) g = more (on_event r p h e) (goes_on ps (gave r p) h (omega arith) f g)

    -- the front element, and those behind it
    element-gives : (r : EventRequest) → r.elements ≡ x ∷ xs → Fresh r → (os : List (List ℕ)) → GivesAll next (without r xs) os
        → (t : Treatment) → event_treatment x.ty ≡ t → GivesAll next r (treated_reports since form log r.mark x t ++ os)
    unfolding treated_reports treat_front
    element-gives r h f os g Report e = begins e os (latest_matches since log r.mark x) r h f.none_given (fresh_gives since log x r f) g
    element-gives r h f os g Incapable e = more {p = record { octets = bare x incapable; rest = without r xs }} (front_is r h ∙ rw e) g
    element-gives r h f os g Cancel e = same_next next r (without r xs) os (front_is r h ∙ rw e) g
    element-gives r h f os g Identity e = same_next next r (without r xs) os (front_is r h ∙ rw e) g

  request_gives : (xs : List Element) (r : EventRequest) → r.elements ≡ xs → Fresh r → GivesAll next r (request_reports since form log r.mark xs)
  unfolding request_reports next_event next_from without
  request_gives [] r h f = done (ap (next_from since form log r) h)
  request_gives (x ∷ xs) r h f =
      element-gives x xs r h f _ (request_gives xs (without r xs) refl (record { none_given = refl; opens = refl })) (event_treatment x.ty) refl

-- ---- a frame is filled with so many of the pieces, and leaves the request with the others

record Fills {R : Type 0} (next : R → Option (Piece R)) (os : List (List ℕ)) (p : Piece R) : Type 0 where
  pub count : ℕ
  pub octets : p.octets ≡ concat (take count os)
  pub rest : GivesAll next p.rest (drop count os)

module _ {R : Type 0} (next : R → Option (Piece R)) where
  fills_none : (r : R) (os : List (List ℕ)) → GivesAll next r os → Fills next os (nothing_more r)
  fills_none r os g = record { count = 0; octets = refl; rest = g }

  fills_one : (o : List ℕ) (os : List (List ℕ)) (p : Piece R) → Fills next os p → Fills next (o ∷ os) (before o p)
  fills_one o os p f = record { count = suc f.count; octets = ap (λ (l : List ℕ). o ++ l) f.octets; rest = f.rest }

  fills_with : (r : R) (room : ℕ) (behind : Piece R → Piece R) (os : List (List ℕ)) → ((p : Piece R) (os : List (List ℕ)) → GivesAll next p.rest os → Fills next os (behind p))
      → GivesAll next r os → Fills next os (fill_with r room behind (next r))
  unfolding fill_with
  fills_with r room behind _ rest (done e) = rw e (fills_none r [] (done e))
  fills_with r room behind _ rest (more {p = p} {os = os} e g) =
      rw e (either (Fills next (p.octets ∷ os)) (leb (length p.octets) room) _ _ (λ _. fills_one p.octets os (behind p) (rest p os g)) (λ _. fills_none r (p.octets ∷ os) (more e g)))

  fill_gives : (fuel room : ℕ) (r : R) (os : List (List ℕ)) → GivesAll next r os → Fills next os (fill next fuel room r)
  unfolding fill
  fill_gives zero room r os g = fills_none r os g
  fill_gives (suc fuel) room r os g =
      fills_with r room (λ p. fill next fuel (room - length p.octets) p.rest) os (λ p os' g'. fill_gives fuel (room - length p.octets) p.rest os' g') g

-- ---- a report call

-- what a request leaves has these pieces still to give; one that is over has none
data Left {R : Type 0} (next : R → Option (Piece R)) : Option R → List (List ℕ) → Type 0 where
  ended : Left next none []
  standing : {r : R} {os : List (List ℕ)} → GivesAll next r os → Left next (some r) os

concat_append : (os os' : List (List ℕ)) → concat (os ++ os') ≡ concat os ++ concat os'
concat_append [] os' = refl
concat_append (o ∷ os) os' = ap (λ (l : List ℕ). o ++ l) (concat_append os os') ∙ sym (append_assoc o (concat os) (concat os'))

framed : (o b : List ℕ) (c a d : ℕ) → behind_header (of_length (length (c ∷ a ∷ d ∷ o))) (onto (c ∷ a ∷ d ∷ o) b) ≡ o
unfolding behind_header
framed o b c a d = ap (drop 3) (take-append_seam (c ∷ a ∷ d ∷ o) (drop (length (c ∷ a ∷ d ∷ o)) b))

module _ (since : ℕ → ℕ → ℕ) (form : ℕ) (log : List Entry) where
  leaves : (r : EventRequest) (os : List (List ℕ)) → GivesAll (next_event since form log) r os → Left (next_event since form log) (unless_done r (next_event since form log r)) os
  unfolding unless_done
  leaves r _ (done e) = rw e ended
  leaves r _ (more {p = p} {os = os} e g) = rw e (standing (more {p = p} e g))

  -- so many of the pieces stand behind the header, and the others are left
  record Gave (os : List (List ℕ)) (x : Served) : Type 0 where
    pub count : ℕ
    pub octets : behind_header x.answer x.buffer ≡ concat (take count os)
    pub left : Left (next_event since form log) x.requester.events (drop count os)

  nothing-gave : (b : List ℕ) (r : Requester) (a : Answer) (os : List (List ℕ)) → behind_header a b ≡ [] → Left (next_event since form log) r.events os → Gave os (served r a b)
  nothing-gave b r a os e l = record { count = 0; octets = e; left = l }

module _ (since : ℕ → ℕ → ℕ) (log : List Entry) where
  frame-gave : (b : List ℕ) (r : Requester) (q : EventRequest) (os : List (List ℕ)) → GivesAll (next_event since r.form log) q os → Gave since r.form log os (give_events since log b r q)
  unfolding give_events next_frame
  frame-gave b r q os g =
      let next = next_event since r.form log in
      let p = fill next (room b - 3) (room b - 3) q in
      let f = fill_gives next (room b - 3) (room b - 3) q os g in
      record {
        count = f.count;
        octets = framed p.octets b category (report_action Event) q.dialog ∙ f.octets;
        left = leaves since r.form log p.rest (drop f.count os) f.rest;
      }

  report-gave : (i : Option (List ℕ)) (b : List ℕ) (r : Requester) (os : List (List ℕ)) → Left (next_event since r.form log) r.events os
      → Gave since r.form log os (give_report since i log Event b r)
  unfolding give_report give_kind if_outstanding behind_header
  report-gave i b r os l = either (Gave since r.form log os) _ _ _ (λ _. nothing-gave since r.form log b r _ os refl l) (λ _. go r.events refl l)
    where
      go : (o : Option EventRequest) → r.events ≡ o → Left (next_event since r.form log) o os → Gave since r.form log os (if_outstanding (give_events since log b r) r b o)
      go none e k = nothing-gave since r.form log b r nothing os refl (rw e k)
      go (some q) e (standing g) = frame-gave b r q os g

  -- said of the form that it follows, and of a name of that form
  in_form : (o : Option EventRequest) (os : List (List ℕ)) (x : Served) (follows form : ℕ) → follows ≡ form
      → (Left (next_event since follows log) o os → Gave since follows log os x) → Left (next_event since form log) o os → Gave since form log os x
  in_form o os x follows form e give l = rw e at (give (rw e l))

-- ---- a call, by what the requester sees

module _ (k : Clock) (most : Capacities) (s : Address) (form : ℕ) (log : List Entry) where
  -- the log stays, and the requester's request has these pieces still to give
  record Standing (os : List (List ℕ)) (v : Seen) : Type 0 where
    pub requester : Requester
    pub found : v.slot ≡ some requester
    pub same_log : v.log ≡ log
    pub same-form : requester.form ≡ form
    pub left : Left (next_event k.since form log) requester.events os

  -- a call gave so many of them, and the others are left
  record GaveSome (os : List (List ℕ)) (g : Station) (c : Call) : Type 0 where
    pub count : ℕ
    pub octets : events_of s c (reply k most g c) ≡ concat (take count os)
    pub after : Standing (drop count os) (seen s (step k most g c).station)

  tick-stands : (os : List (List ℕ)) (reading : ℕ) (v : Seen) → Standing os v → Standing os (tick_seen k reading v)
  unfolding tick_seen tick_requester
  tick-stands os reading v x = record { requester = tick_requester k.since (advanced k v.timer reading).now x.requester; found = rw x.found; same_log = x.same_log; same-form = x.same-form; left = x.left }

  -- a clock reading, and what is no more to it
  gave_none : (os : List (List ℕ)) (g : Station) (c : Call) → events_of s c (reply k most g c) ≡ [] → step_seen k most s c (seen s g) ≡ tick_seen k (reading_of c) (seen s g) → Standing os (seen s g) → GaveSome os g c
  gave_none os g c e f x = record { count = 0; octets = e; after = rw (seen_step k most s c g, f) (tick-stands os (reading_of c) (seen s g) x) }

  -- another sender's
  quiet-gave : (os : List (List ℕ)) (g : Station) (c : Call) → events_of s c (reply k most g c) ≡ [] → quiet s c ≡ clock (reading_of c) → Standing os (seen s g) → GaveSome os g c
  unfolding step_seen act_seen reading_of
  quiet-gave os g c e q x = gave_none os g c e (sym (quiet_step k most s c (seen s g)) ∙ ap (λ (d : Call). step_seen k most s d (seen s g)) q) x

  -- its own report call
  module _ (g : Station) (t : ℕ) (kind : Kind) (b : List ℕ) where
    own_seen : (r : Requester) → let w = tick_seen k t (seen s g) in w.slot ≡ some r
        → seen s (step k most g (report t s kind b)).station ≡ record { timer = w.timer; identity = w.identity; log = w.log; slot = some (give_report k.since w.identity w.log kind b r).requester }
    unfolding step_seen act_seen served_seen reading_of when◌then◌else◌
    own_seen r e = seen_step k most s (report t s kind b) g ∙ rw (same_refl s, e)

    own_reply : (r : Requester) → let w = tick_seen k t (seen s g) in w.slot ≡ some r
        → let x = give_report k.since w.identity w.log kind b r in reply k most g (report t s kind b) ≡ record { answer = x.answer; buffer = x.buffer }
    unfolding sender to_sender step_reply seen_reply served_reply reading_of
    own_reply r e = some-injective _ _ (seen-reply k most (report t s kind b) (λ _. g)) ∙ rw e

  events-kept : (i : Option (List ℕ)) (l : List Entry) (b : List ℕ) (r : Requester) → (give_report k.since i l Diagnostic b r).requester.events ≡ r.events
  unfolding give_report give_kind if_outstanding give_diagnostics
  events-kept i l b r = either (λ (x : Served). x.requester.events ≡ r.events) _ _ _ (λ _. refl) (λ _. go r.diagnostics)
    where
      go : (o : Option DiagnosticRequest) → (if_outstanding (give_diagnostics (octets_of i) b r) r b o).requester.events ≡ r.events
      go none = refl
      go (some q) = refl

  seen_gave : (l : List Entry) → l ≡ log → (i : Option (List ℕ)) (b : List ℕ) (r : Requester) → r.form ≡ form → (os : List (List ℕ)) → Left (next_event k.since form log) r.events os
      → Gave k.since form log os (give_report k.since i l Event b r)
  seen_gave l e i b r h os x = rw e (in_form k.since log r.events os _ r.form form h (report-gave k.since log i b r os) x)

  own_gave : (os : List (List ℕ)) (g : Station) (t : ℕ) (kind : Kind) (b : List ℕ) → Standing os (seen s g) → GaveSome os g (report t s kind b)
  unfolding events_of events_in when◌then◌else◌
  own_gave os g t Event b x =
      let y = tick-stands os t (seen s g) x in
      let w = tick_seen k t (seen s g) in
      let f = seen_gave w.log y.same_log w.identity b y.requester y.same-form os y.left in
      record {
        count = f.count;
        octets = rw (same_refl s, own_reply g t Event b y.requester y.found) f.octets;
        after = rw (own_seen g t Event b y.requester y.found) (record { requester = _; found = refl; same_log = y.same_log; same-form = (give_keeps k.since _ _ Event b y.requester).1 ∙ y.same-form; left = f.left });
      }
  own_gave os g t Diagnostic b x =
      let y = tick-stands os t (seen s g) x in
      record {
        count = 0;
        octets = rw (same_refl s);
        after = rw (own_seen g t Diagnostic b y.requester y.found) (record { requester = _; found = refl; same_log = y.same_log; same-form = (give_keeps k.since _ _ Diagnostic b y.requester).1 ∙ y.same-form; left = rw (events-kept _ _ b y.requester) y.left });
      }

  call-gave : (os : List (List ℕ)) (g : Station) (c : Call) → LetsBe s c → Standing os (seen s g) → GaveSome os g c
  unfolding LetsBe events_of step_seen act_seen reading_of sender quiet_for when◌then◌else◌
  call-gave os g (clock t) l x = gave_none os g (clock t) refl refl x
  call-gave os g (logging t e) l x = absurd l
  call-gave os g (frame t d a o) l x = quiet-gave os g (frame t d a o) refl (rw l) x
  call-gave os g (report t a kind b) l x = go (same a s) refl
    where
      go : (e : Bool) → same a s ≡ e → GaveSome os g (report t a kind b)
      go true e = rw (same_true a s e) (own_gave os g t kind b x)
      go false e = quiet-gave os g (report t a kind b) (rw e) (rw e) x
  call-gave os g (roam t l) n x = absurd n
  call-gave os g (change t l) n x = absurd n

  -- ---- calls one after the other

  none_left : (os : List (List ℕ)) (o : Option EventRequest) → Left (next_event k.since form log) o os → Option.map (λ q. q.dialog) o ≡ none → os ≡ []
  none_left os none ended e = refl
  none_left os (some q) (standing g) e = never cc

  calls_gave : (later : List Call) (g : Station) (os : List (List ℕ)) → All (LetsBe s) later → Standing os (seen s g)
      → GivenInOrder os (events_given k most s g later) (outstanding_dialog Event s (run k most g later))
  unfolding events_given run seen dialog_in dialog_of
  calls_gave [] g os l x =
      record { count = 0; in_order = refl; over = λ e. sym (ap concat (none_left os x.requester.events x.left (ap (dialog_in Event) (sym x.found) ∙ e))) }
  calls_gave (c ∷ cs) g os (also l ls) x =
      let f = call-gave os g c l x in
      let r = calls_gave cs (step k most g c).station (drop f.count os) ls f.after in
      record {
        count = f.count + r.count;
        in_order = rw (f.octets, r.in_order, take-add f.count r.count os) (sym (concat_append (take f.count os) (take r.count (drop f.count os))));
        over = λ e. rw (f.octets, r.over e) (sym (concat_append (take f.count os) (drop f.count os)) ∙ ap concat (take-append-drop f.count os));
      }

-- ---- the frame that opens it

module _ (k : Clock) (most : Capacities) (g : Station) (t : ℕ) (d s : Address) (o : List ℕ) where
  abbrev asked : Request
  asked = read_request most.elements o

  abbrev ticked : Seen
  ticked = tick_seen k t (seen s g)

  frame-answer : (step k most g (frame t d s o)).answer
      ≡ (when is_group d then record { answer = refused_for group_destination; buffer = [] } else served_reply (take_request ticked.timer.now g.log asked) [] ticked.slot).answer
  unfolding sender to_sender reply step_reply seen_reply tick_seen seen reading_of
  frame-answer = ap (λ (r : Reply). r.answer) (some-injective _ _ (seen-reply k most (frame t d s o) (λ _. g)))

  frame_seen : seen s (step k most g (frame t d s o)).station
      ≡ (when is_group d then ticked else served_seen s s (take_request ticked.timer.now g.log asked) ticked)
  unfolding step_seen act_seen tick_seen seen reading_of
  frame_seen = seen_step k most s (frame t d s o) g

  -- the station after it holds the new request
  module _ (new : outstanding_dialog Event s g ≡ some asked.dialog → ⊥) (asks : asked.kind ≡ Event) (form : ℕ) (follows : form_of s g.requesters ≡ form) where
    abbrev Opened : Seen → Type 0
    Opened = Standing k most s form g.log (request_reports k.since form g.log (length g.log) (take asked.count asked.elements))

    replaced : (e : Option EventRequest) → (Option.map (λ q. q.dialog) e ≡ some asked.dialog → ⊥) → take_events (length g.log) asked e ≡ some (open_events (length g.log) asked)
    unfolding take_events replace when◌then◌else◌
    replaced none n = refl
    replaced (some e) n = go (eqb asked.dialog e.dialog) refl
      where
        go : (b : Bool) → eqb asked.dialog e.dialog ≡ b → (when b then some e else some (open_events (length g.log) asked)) ≡ some (open_events (length g.log) asked)
        go true i = absurd (n (ap (λ (x : ℕ). some x) (sym (eqb-true asked.dialog e.dialog i))))
        go false i = refl

    kind_events : (now : ℕ) (r : Requester) (kind : Kind) → kind ≡ Event → (take_kind now g.log asked r kind).events ≡ take_events (length g.log) asked r.events
    unfolding take_kind
    kind_events now r Event e = refl
    kind_events now r Diagnostic e = never cc

    open_slot : (r : Requester) → find s g.requesters ≡ some r → (x : Requester) → x.form ≡ r.form → x.events ≡ take_events (length g.log) asked r.events
        → Opened (record { timer = ticked.timer; identity = ticked.identity; log = ticked.log; slot = some x })
    unfolding tick_seen seen dialog_in dialog_of open_events form_in
    open_slot r f x i e = record {
      requester = x;
      found = refl;
      same_log = refl;
      same-form = i ∙ ap form_in (sym f) ∙ follows;
      left = rw (e, replaced r.events (λ h. new (rw f h))) (standing (request_gives k.since form g.log _ (open_events (length g.log) asked) refl (record { none_given = refl; opens = refl })));
    }

    opened : (step k most g (frame t d s o)).answer ≡ accepted → Opened (seen s (step k most g (frame t d s o)).station)
    unfolding tick_seen seen served_seen served_reply take_request tick_requester when◌then◌else◌
    opened e = rw frame_seen (go (is_group d) (find s g.requesters) refl (not (eqb asked.refusal.number 0)) refl (sym frame-answer ∙ e))
      where
        serve : Requester → Served
        serve = take_request ticked.timer.now g.log asked

        go : (x : Bool) (slot : Option Requester) → find s g.requesters ≡ slot → (y : Bool) → not (eqb asked.refusal.number 0) ≡ y
            → (when x then record { answer = refused_for group_destination; buffer = [] } else served_reply serve [] ticked.slot).answer ≡ accepted
            → Opened (when x then ticked else served_seen s s serve ticked)
        go true slot f y i h = never cc
        go false none f y i h = let z : refused_for unknown_requester ≡ accepted = rw f at h in never cc
        go false (some r) f true i h = let z : turned_away asked.refusal ≡ accepted = rw (f, i) at h in never cc
        go false (some r) f false i h = rw (same_refl s, f, i) (open_slot r f _ (kind_keeps ticked.timer.now g.log asked (tick_requester k.since ticked.timer.now r) asked.kind).1 (kind_events ticked.timer.now (tick_requester k.since ticked.timer.now r) asked.kind asks))

pub newest-first : NewestFirst
newest-first k most g t d s o later opens lets =
    calls_gave k most s (form_of s g.requesters) g.log later (step k most g (frame t d s o)).station _ lets (opened k most g t d s o opens.new opens.asks _ refl opens.taken)
