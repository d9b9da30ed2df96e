-- A station whose times are all mapped by f: where the ages that a call takes are the same, so is its reply, and the stations after it
-- are as before it.
-- Assumes nothing.
use Rattle.std.proofs.Common.{ℕ, zero, suc, ◌-◌, ◌*◌, ◌≤◌, ◌<◌, min, ◌≡◌, refl, sym, ◌∙◌, ap, ap₂, Bool, true, false, not, ◌&&◌, ◌||◌, List, [], ◌∷◌, map, arith, eqb-true, ltb, eqb, length, get_or, drop}
use Rattle.std.proofs.Math.Path.{fun_ext}
use Rattle.std.proofs.Math.Option.{Option, none, some}
use Rattle.std.proofs.Math.ListN.{length-map}
use Rattle.std.proofs.lemmas.List.{map-append}
use Rattle.std.proofs.Math.Option
use Rattle.laws.specs.Members.{any}
use Rattle.laws.specs.Choice.{when◌then◌else◌}
use Rattle.laws.proofs.Choice.{either, apply_if}
use Rattle.octets.specs.declared.numbers.Kind.{Kind}
use Rattle.octets.specs.declared.numbers.Kind.TheVariants.{Event, Diagnostic}
use Rattle.octets.specs.Addresses.{same, is_group}
use Rattle.octets.specs.Numbers.{report_action}
use Rattle.octets.specs.Refusals.{bad_requester_list}
use Rattle.requests.specs.declared.Element.{Element}
use Rattle.requests.specs.Requests.{read_request, Request}
use Rattle.events.specs.declared.Entry.{Entry}
use Rattle.events.specs.Log.{pushed, past_log, type_of, stamp_of}
use Rattle.events.specs.Loggings.{LoggedEvent, entry_with, entry_of}
use Rattle.events.specs.Conditions.{condition, is_near, recent_in, type_meets, meets_at, meets}
use Rattle.events.proofs.ChoiceLaws.{last-same, count_same}
use Rattle.events.proofs.ConditionLaws.{not-counted}
use Rattle.units.specs.Time.{exceeds}
use Rattle.reports.specs.Reports.{event_element}
use Rattle.model.specs.declared.Diagnostic.{Diagnostic as DiagnosticElement}
use Rattle.model.specs.declared.Treatment.{Treatment}
use Rattle.model.specs.declared.Treatment.TheVariants.{Report, Incapable, Cancel, Identity}
use Rattle.model.specs.Clocks.{Timer}
use Rattle.model.specs.Model.{Capacities, Address, Listed, EventRequest, DiagnosticRequest, Requester, Station, Call, clock, logging, frame, report, roam, change, Result}
use Rattle.model.specs.Dialogs.{replace}
use Rattle.model.specs.Requesters.{new_requester, find, put, bad_list}
use Rattle.model.specs.Fill.{Piece, fill_with, fill, next_frame}
use Rattle.model.specs.Diagnostics.{is_late, on_time, unless_over, drop_late, holds_cancel, diagnostics_of, take_diagnostics}
use Rattle.model.specs.Events.{event_treatment, eligible_places, next_event_place, report_front, treat_front, next_from, next_event, gave, without}
use Rattle.model.specs.Stations.{result, refused_for, tick_requester, without_late, lower_requester, log_requester, log_entry, log_cause, log_call, Served, served, with_requester, serve_found, serve_listed, take_kind, take_request, request_call, frame_call, room, give_events, give_diagnostics, if_outstanding, octets_of, give_kind, give_report, report_call, rename_with, rename, act}
use Rattle.model.specs.Ages.{asks_frequent, OfRequest, OfDrop, OfLog, OfEvents, OfKind, OfReport, OfCall}
use Rattle.model.proofs.FillLaws.{fill-rest}
use Rattle.model.proofs.Seen.{find-map}

-- ---- general: a request is filled alike by two next pieces that are the same for every rest of it

unfoldable Kept : {R : Type 0} → (R → Type 0) → Option (Piece R) → Type 0
Kept Inv none = Unit {0}
Kept Inv (some p) = Inv p.rest

module _ {R : Type 0} (next next' : R → Option (Piece R)) (Inv : R → Type 0) (same_next : (r : R) → Inv r → next r ≡ next' r) (keeps : (r : R) → Inv r → Kept Inv (next' r)) where
  fill-same : (n room : ℕ) (r : R) → Inv r → fill next n room r ≡ fill next' n room r
  unfolding fill fill_with Kept
  fill-same zero room r i = refl
  fill-same (suc n) room r i = rw (same_next r i) (go (next' r) (keeps r i) (fill-same n))
    where
      go : (o : Option (Piece R)) → Kept Inv o → ((room : ℕ) (r : R) → Inv r → fill next n room r ≡ fill next' n room r)
          → fill_with r room (λ p. fill next n (room - length p.octets) p.rest) o ≡ fill_with r room (λ p. fill next' n (room - length p.octets) p.rest) o
      go none k e = refl
      go (some p) k e = rw (e (room - length p.octets) p.rest k)

  fill_keeps : (n room : ℕ) (r : R) → Inv r → Inv (fill next' n room r).rest
  unfolding Kept
  fill_keeps = fill-rest next' (λ r r'. Inv r → Inv r') (λ r i. i) (λ r r' p e f i. f (rw e at (keeps r i)))

  frame_same : (action dialog room : ℕ) (r : R) → Inv r → next_frame next action dialog room r ≡ next_frame next' action dialog room r
  unfolding next_frame
  frame_same action dialog room r i = rw (fill-same (room - 3) (room - 3) r i)

  frame_keeps : (action dialog room : ℕ) (r : R) → Inv r → Inv (next_frame next' action dialog room r).rest
  unfolding next_frame
  frame_keeps action dialog room r i = fill_keeps (room - 3) (room - 3) r i

-- a column of the log at a place
column : (read : Entry → ℕ) (log : List Entry) (i : ℕ) → get_or (map read log) i (read past_log) ≡ read (get_or log i past_log)
column read [] i = refl
column read (e ∷ log) zero = refl
column read (e ∷ log) (suc i) = column read log i

module _ (f : ℕ → ℕ) where
  unfoldable pub entry_by : Entry → Entry
  entry_by e = record { ty = e.ty; length = e.length; stamp = record { 0 = f e.stamp.0 }; time = e.time; published = e.published; body = e.body }

  unfoldable pub request_by : DiagnosticRequest → DiagnosticRequest
  request_by q = record { dialog = q.dialog; accepted = f q.accepted; elements = q.elements }

  unfoldable pub requester_by : Requester → Requester
  requester_by r = record { address = r.address; form = r.form; events = r.events; diagnostics = Option.map request_by r.diagnostics }

  abbrev pub timer_by : Timer → Timer
  timer_by t = record { last = t.last; now = f t.now }

  unfoldable pub retimed : Station → Station
  retimed g = record { timer = timer_by g.timer; identity = g.identity; log = map entry_by g.log; requesters = map requester_by g.requesters }

  abbrev pub result_by : Result → Result
  result_by x = record { station = retimed x.station; answer = x.answer; buffer = x.buffer }

  abbrev served_by : Served → Served
  served_by x = record { requester = requester_by x.requester; answer = x.answer; buffer = x.buffer }

  -- ---- lists

  map-find : (a : Address) (rs : List Requester) → find a (map requester_by rs) ≡ Option.map requester_by (find a rs)
  unfolding requester_by
  map-find = find-map requester_by (λ r. (refl, refl))

  map-put : (a : Address) (x : Requester) (rs : List Requester) → put a (requester_by x) (map requester_by rs) ≡ map requester_by (put a x rs)
  unfolding put requester_by
  map-put a x [] = refl
  map-put a x (r ∷ rs) = rw (map-put a x rs) (sym (apply_if (map requester_by) (same a r.address) (x ∷ rs) (r ∷ put a x rs)))

  -- functions of requesters that commute with it
  map_square : (h h' : Requester → Requester) → ((r : Requester) → h (requester_by r) ≡ requester_by (h' r))
      → (rs : List Requester) → map h (map requester_by rs) ≡ map requester_by (map h' rs)
  map_square h h' e [] = refl
  map_square h h' e (r ∷ rs) = ap₂ ◌∷◌ (e r) (map_square h h' e rs)

  pub new-same : (l : List Listed) → map requester_by (map new_requester l) ≡ map new_requester l
  unfolding new_requester requester_by
  new-same [] = refl
  new-same (a ∷ l) = ap (λ (rs : List Requester). new_requester a ∷ rs) (new-same l)

  -- ---- diagnostics

  left_by : (d a : ℕ) (xs : List DiagnosticElement) → unless_over d (f a) xs ≡ Option.map request_by (unless_over d a xs)
  unfolding unless_over request_by
  left_by d a [] = refl
  left_by d a (x ∷ xs) = refl

  take_by : (now : ℕ) (q : Request) (o : Option DiagnosticRequest) → take_diagnostics (f now) q (Option.map request_by o) ≡ Option.map request_by (take_diagnostics now q o)
  unfolding take_diagnostics replace request_by
  take_by now q o = rw (go o) (sym (apply_if (Option.map request_by) (holds_cancel (diagnostics_of q)) none _))
    where
      go : (o : Option DiagnosticRequest)
          → replace (λ r. eqb q.dialog r.dialog) (unless_over q.dialog (f now) (diagnostics_of q)) (Option.map request_by o)
          ≡ Option.map request_by (replace (λ r. eqb q.dialog r.dialog) (unless_over q.dialog now (diagnostics_of q)) o)
      go none = left_by q.dialog now (diagnostics_of q)
      go (some r) =
          rw (left_by q.dialog now (diagnostics_of q)) (sym (apply_if (Option.map request_by) (eqb q.dialog r.dialog) (some r) (unless_over q.dialog now (diagnostics_of q))))

  -- ---- the log

  drop_by : (log : List Entry) → drop 1 (map entry_by log) ≡ map entry_by (drop 1 log)
  drop_by [] = refl
  drop_by (e ∷ log) = refl

  push_by : (n : ℕ) (log : List Entry) (e : Entry) → pushed n (map entry_by log) (entry_by e) ≡ map entry_by (pushed n log e)
  unfolding pushed
  push_by n log e =
      rw (length-map log entry_by, drop_by log, ← apply_if (map entry_by) (ltb (length log) n) log (drop 1 log))
      (sym (map-append entry_by (when ltb (length log) n then log else drop 1 log) (e ∷ [])))

  log_by : (most : Capacities) (log : List Entry) (r : Requester) → log_requester most (map entry_by log) (requester_by r) ≡ requester_by (log_requester most log r)
  unfolding log_requester lower_requester requester_by
  log_by most log r = rw (length-map log entry_by) (sym (apply_if requester_by (ltb (length log) most.events) r _))

  stamp_by : (log : List Entry) (i : ℕ) → i < length log → stamp_of (get_or (map entry_by log) i past_log) ≡ f (stamp_of (get_or log i past_log))
  unfolding entry_by
  stamp_by [] i h = absurd (omega arith)
  stamp_by (e ∷ log) zero h = refl
  stamp_by (e ∷ log) (suc i) h = stamp_by log i (omega arith)

  -- what is reported of an entry, or of what stands past the log
  entry-by : {A : Type 0} (read : Entry → A) → ((e : Entry) → read (entry_by e) ≡ read e) → (log : List Entry) (p : ℕ)
      → read (get_or (map entry_by log) p past_log) ≡ read (get_or log p past_log)
  entry-by read e [] p = refl
  entry-by read e (x ∷ log) zero = e x
  entry-by read e (x ∷ log) (suc p) = entry-by read e log p

  module _ (since since' : ℕ → ℕ → ℕ) where
    -- the age of the mapped times is that of the times
    abbrev pub Agree : ℕ → ℕ → Type 0
    Agree t a = since (f t) (f a) ≡ since' t a

    -- ---- the late drop

    on_time_by : (now a : ℕ) → Agree now a → (xs : List DiagnosticElement) → on_time since (f now) (f a) xs ≡ on_time since' now a xs
    unfolding on_time is_late
    on_time_by now a e [] = refl
    on_time_by now a e (x ∷ xs) = rw (e, on_time_by now a e xs)

    late_by : (now : ℕ) (o : Option DiagnosticRequest) → OfRequest Agree now o → drop_late since (f now) (Option.map request_by o) ≡ Option.map request_by (drop_late since' now o)
    unfolding drop_late request_by OfRequest
    late_by now none e = refl
    late_by now (some q) e = rw (on_time_by now q.accepted e q.elements) (left_by q.dialog q.accepted _)

    drop_all_by : (now : ℕ) (rs : List Requester) → OfDrop Agree now rs
        → map (tick_requester since (f now)) (map requester_by rs) ≡ map requester_by (map (tick_requester since' now) rs)
    unfolding OfDrop tick_requester requester_by
    drop_all_by now [] e = refl
    drop_all_by now (r ∷ rs) e =
        ap₂ (λ (o : Option DiagnosticRequest) (l : List Requester). record { address = r.address; form = r.form; events = r.events; diagnostics = o } ∷ l)
        (late_by now r.diagnostics e.0) (drop_all_by now rs e.1)

    pub dropped_by : (g : Station) → OfDrop Agree g.timer.now g.requesters → without_late since (retimed g) ≡ retimed (without_late since' g)
    unfolding without_late retimed
    dropped_by g e = rw (drop_all_by g.timer.now g.requesters e)

    -- ---- event reports

    module _ (log : List Entry) where
      recent_by : (mark : ℕ) → OfLog Agree mark log → (p : ℕ) → p < min mark (length log) → type_of (get_or log p past_log) ≡ 0
          → recent_in since (map type_of (map entry_by log)) (map stamp_of (map entry_by log)) 0 p ≡ recent_in since' (map type_of log) (map stamp_of log) 0 p
      unfolding recent_in is_near OfLog when◌then◌else◌ entry_by
      recent_by mark agree p h z =
          fun_ext (λ interval. count_same _ _ (suc p) (λ i k.
          rw (
            column type_of (map entry_by log) i,
            column stamp_of (map entry_by log) i,
            column stamp_of (map entry_by log) p,
            column type_of log i,
            column stamp_of log i,
            column stamp_of log p,
            entry-by type_of (λ e. refl) log i,
            stamp_by log i (omega arith),
            stamp_by log p (omega arith),
          )
          (go i interval (omega arith) (eqb (type_of (get_or log i past_log)) 0) refl)))
        where
          at : ℕ → ℕ
          at i = stamp_of (get_or log i past_log)

          go : (i interval : ℕ) → i ≤ p → (b : Bool) → eqb (type_of (get_or log i past_log)) 0 ≡ b
              → (when not b then false else not (exceeds (since (f (at p)) (f (at i))) (interval * 60000))) ≡ (when not b then false else not (exceeds (since' (at p) (at i)) (interval * 60000)))
          go i interval k true e = rw (agree i p k h (eqb-true _ 0 e) z)
          go i interval k false e = refl

      meets_by : (mark : ℕ) (x : Element) → (asks_frequent x ≡ true → OfLog Agree mark log) → (p : ℕ) → p < min mark (length log)
          → meets since (map entry_by log) x.ty x.filter p ≡ meets since' log x.ty x.filter p
      unfolding meets meets_at type_meets entry_by when◌then◌else◌
      meets_by mark x agree p h =
          entry-by (λ (e : Entry). meets_at e x.ty recent x.filter) (λ e. refl) log p
          ∙ go (eqb x.ty 0) refl (condition x.filter 4).present refl
        where
          e : Entry
          e = get_or log p past_log

          recent : ℕ → ℕ
          recent = recent_in since (map type_of (map entry_by log)) (map stamp_of (map entry_by log)) x.ty p

          recent' : ℕ → ℕ
          recent' = recent_in since' (map type_of log) (map stamp_of log) x.ty p

          typed : x.ty ≡ 0 → OfLog Agree mark log → (b : Bool) → eqb e.ty x.ty ≡ b
              → (when not b then false else type_meets x.ty e.body recent x.filter) ≡ (when not b then false else type_meets x.ty e.body recent' x.filter)
          typed z a true i = rw z (ap (λ (r : ℕ → ℕ). type_meets 0 e.body r x.filter) (recent_by mark a p h (eqb-true e.ty x.ty i ∙ z)))
          typed z a false i = refl

          go : (t : Bool) → eqb x.ty 0 ≡ t → (b : Bool) → (condition x.filter 4).present ≡ b → meets_at e x.ty recent x.filter ≡ meets_at e x.ty recent' x.filter
          go true i true a = typed (eqb-true x.ty 0 i) (agree (ap₂ ◌&&◌ i a)) (eqb e.ty x.ty) refl
          go t i false a = not-counted x.filter a e x.ty _ _
          go false i true a = rw i

      -- what a request needs, whose elements left are xs
      abbrev Needs : EventRequest → List Element → Type 0
      Needs r xs = any asks_frequent xs ≡ true → OfLog Agree r.mark log

      needs_here : (r : EventRequest) (x : Element) (xs : List Element) → Needs r (x ∷ xs) → asks_frequent x ≡ true → OfLog Agree r.mark log
      unfolding any
      needs_here r x xs n e = n (ap (λ (b : Bool). b || any asks_frequent xs) e)

      needs_behind : (r : EventRequest) (x : Element) (xs : List Element) → Needs r (x ∷ xs) → Needs r xs
      unfolding any
      needs_behind r x xs n e = n (go (asks_frequent x))
        where
          go : (b : Bool) → (b || any asks_frequent xs) ≡ true
          go true = refl
          go false = e

      place_by : (r : EventRequest) (x : Element) → (asks_frequent x ≡ true → OfLog Agree r.mark log) → next_event_place since (map entry_by log) r x ≡ next_event_place since' log r x
      unfolding next_event_place
      place_by r x n =
          rw (
            length-map log entry_by,
            last-same (meets since (map entry_by log) x.ty x.filter) (meets since' log x.ty x.filter) (eligible_places log r) (λ q a. meets_by r.mark x n q (omega arith)),
          )

      front_by : (form : ℕ) (r : EventRequest) (x : Element) (xs : List Element) (behind : Option (Piece EventRequest)) (o : Option ℕ)
          → report_front form (map entry_by log) r x xs behind o ≡ report_front form log r x xs behind o
      unfolding report_front event_element entry_by
      front_by form r x xs behind none = refl
      front_by form r x xs behind (some p) = rw (entry-by (event_element form x.token) (λ e. refl) log p)

      from_by : (form : ℕ) (r : EventRequest) (xs : List Element) → Needs r xs → next_from since form (map entry_by log) r xs ≡ next_from since' form log r xs
      unfolding next_from treat_front without
      from_by form r [] n = refl
      from_by form r (x ∷ xs) n = rw (from_by form (without r xs) xs (needs_behind r x xs n)) (go (event_treatment x.ty))
        where
          behind : Option (Piece EventRequest)
          behind = next_from since' form log (without r xs) xs

          go : (t : Treatment) → treat_front since form (map entry_by log) r x xs behind t ≡ treat_front since' form log r x xs behind t
          go Report = rw (place_by r x (needs_here r x xs n)) (front_by form r x xs behind (next_event_place since' log r x))
          go Incapable = refl
          go Cancel = refl
          go Identity = refl

      abbrev Inv : EventRequest → Type 0
      Inv r = Needs r r.elements

      from_keeps : (form : ℕ) (r : EventRequest) (xs : List Element) → Inv r → Needs r xs → Kept Inv (next_from since' form log r xs)
      unfolding next_from treat_front report_front without gave Kept
      from_keeps form r [] i n = tt
      from_keeps form r (x ∷ xs) i n = go (event_treatment x.ty) (from_keeps form (without r xs) xs (needs_behind r x xs n) (needs_behind r x xs n))
        where
          behind : Option (Piece EventRequest)
          behind = next_from since' form log (without r xs) xs

          front : (o : Option ℕ) → Kept Inv behind → Kept Inv (report_front form log r x xs behind o)
          front none k = either (Kept Inv) _ _ behind (λ _. needs_behind r x xs n) (λ _. k)
          front (some p) k = i

          go : (t : Treatment) → Kept Inv behind → Kept Inv (treat_front since' form log r x xs behind t)
          go Report k = front (next_event_place since' log r x) k
          go Incapable k = needs_behind r x xs n
          go Cancel k = k
          go Identity k = k

      next_by : (form : ℕ) (r : EventRequest) → Inv r → next_event since form (map entry_by log) r ≡ next_event since' form log r
      unfolding next_event
      next_by form r i = from_by form r r.elements i

      next_keeps : (form : ℕ) (r : EventRequest) → Inv r → Kept Inv (next_event since' form log r)
      unfolding next_event
      next_keeps form r i = from_keeps form r r.elements i i

      give_events_by : (b : List ℕ) (r : Requester) (q : EventRequest) → Inv q
          → give_events since (map entry_by log) b (requester_by r) q ≡ served_by (give_events since' log b r q)
      unfolding give_events requester_by
      give_events_by b r q i =
          let l = next_event since r.form (map entry_by log) in
          let l' = next_event since' r.form log in
          let p = next_frame l' (report_action Event) q.dialog (room b) q in
          let e = frame_same l l' Inv (next_by r.form) (next_keeps r.form) (report_action Event) q.dialog (room b) q i in
          rw (e, next_by r.form p.rest (frame_keeps l l' Inv (next_by r.form) (next_keeps r.form) (report_action Event) q.dialog (room b) q i))

    give_diagnostics_by : (i b : List ℕ) (r : Requester) (q : DiagnosticRequest)
        → give_diagnostics i b (requester_by r) (request_by q) ≡ served_by (give_diagnostics i b r q)
    unfolding give_diagnostics requester_by request_by
    give_diagnostics_by i b r q = rw (left_by q.dialog q.accepted _)

    outstanding_by : {Q : Type 0} (h : Q → Q) (give give' : Q → Served) (r : Requester) (b : List ℕ) → ((q : Q) → give (h q) ≡ served_by (give' q))
        → (o : Option Q) → if_outstanding give (requester_by r) b (Option.map h o) ≡ served_by (if_outstanding give' r b o)
    unfolding if_outstanding
    outstanding_by h give give' r b e none = refl
    outstanding_by h give give' r b e (some q) = e q

    kind_by : (i : Option (List ℕ)) (log : List Entry) (b : List ℕ) (r : Requester) (kind : Kind) → OfKind Agree log r kind
        → give_kind since i (map entry_by log) b (requester_by r) kind ≡ served_by (give_kind since' i log b r kind)
    unfolding give_kind OfKind OfEvents requester_by if_outstanding
    kind_by i log b r Event e = go r.events e
      where
        go : (o : Option EventRequest) → OfEvents Agree log o
            → if_outstanding (give_events since (map entry_by log) b (requester_by r)) (requester_by r) b o ≡ served_by (if_outstanding (give_events since' log b r) r b o)
        go none e = refl
        go (some q) e = give_events_by log b r q e
    kind_by i log b r Diagnostic e = outstanding_by request_by _ _ r b (give_diagnostics_by (octets_of i) b r) r.diagnostics

    report_by : (i : Option (List ℕ)) (log : List Entry) (kind : Kind) (b : List ℕ) (r : Requester) → OfKind Agree log r kind
        → give_report since i (map entry_by log) kind b (requester_by r) ≡ served_by (give_report since' i log kind b r)
    unfolding give_report
    report_by i log kind b r e = rw (kind_by i log b r kind e) (sym (apply_if served_by _ (served r _ b) (give_kind since' i log b r kind)))

    -- ---- the calls

    module _ (a : Address) (serve serve' : Requester → Served) (b : List ℕ) (g : Station) where
      found_by : (o : Option Requester) → ((r : Requester) → o ≡ some r → serve (requester_by r) ≡ served_by (serve' r))
          → serve_found a serve b (retimed g) (Option.map requester_by o) ≡ result_by (serve_found a serve' b g o)
      unfolding serve_found with_requester retimed
      found_by none e = refl
      found_by (some r) e = rw (e r refl, map-put a (serve' r).requester g.requesters)

      listed_by : ((r : Requester) → find a g.requesters ≡ some r → serve (requester_by r) ≡ served_by (serve' r))
          → serve_listed a serve b (retimed g) ≡ result_by (serve_listed a serve' b g)
      unfolding serve_listed retimed
      listed_by e = ap (serve_found a serve b (retimed g)) (map-find a g.requesters) ∙ found_by (find a g.requesters) e

    take_kind_by : (now : ℕ) (log : List Entry) (q : Request) (r : Requester) (kind : Kind)
        → take_kind (f now) (map entry_by log) q (requester_by r) kind ≡ requester_by (take_kind now log q r kind)
    unfolding take_kind requester_by
    take_kind_by now log q r Event = rw (length-map log entry_by)
    take_kind_by now log q r Diagnostic = rw (take_by now q r.diagnostics)

    request-by : (now : ℕ) (log : List Entry) (q : Request) (r : Requester)
        → take_request (f now) (map entry_by log) q (requester_by r) ≡ served_by (take_request now log q r)
    unfolding take_request
    request-by now log q r = rw (take_kind_by now log q r q.kind) (sym (apply_if served_by (not (eqb q.refusal.number 0)) _ _))

    named_by : (log : List Entry) (l : List Listed) (g : Station) (o : Option (List ℕ)) → rename_with (map entry_by log) l (retimed g) o ≡ result_by (rename_with log l g o)
    unfolding rename_with retimed
    named_by log l g none = refl
    named_by log l g (some i) = rw (new-same l)

    rename_by : (most : Capacities) (log : List Entry) (l : List Listed) (g : Station) → rename most (map entry_by log) l (retimed g) ≡ result_by (rename most log l g)
    unfolding rename retimed
    rename_by most log l g =
        rw (named_by log l g g.identity) (sym (apply_if result_by (bad_list most.requesters l) (result g (refused_for bad_requester_list) []) (rename_with log l g g.identity)))

    log_call_by : (most : Capacities) (reading : ℕ) (e : LoggedEvent) (g : Station) → log_call most reading e (retimed g) ≡ result_by (log_call most reading e g)
    unfolding log_call log_entry retimed entry_by entry_with
    log_call_by most reading e g =
        rw (push_by most.events g.log (entry_of g.timer.now reading e), map_square (log_requester most (map entry_by g.log)) (log_requester most g.log) (log_by most g.log) g.requesters)
        (sym (apply_if result_by (not (eqb (log_cause e) 0)) _ _))

    pub act_by : (most : Capacities) (x : Call) (g : Station) → OfCall Agree g x → act since most x (retimed g) ≡ result_by (act since' most x g)
    unfolding act request_call frame_call report_call OfCall OfReport retimed
    act_by most (clock t) g e = refl
    act_by most (logging t y) g e = log_call_by most t y g
    act_by most (frame t d a o) g e =
        let q = read_request most.elements o in
        rw (listed_by a (take_request (f g.timer.now) (map entry_by g.log) q) (take_request g.timer.now g.log q) [] g (λ r _. request-by g.timer.now g.log q r))
        (sym (apply_if result_by (is_group d) _ _))
    act_by most (report t a kind b) g e =
        listed_by a (give_report since g.identity (map entry_by g.log) kind b) (give_report since' g.identity g.log kind b) b g
        (λ r h. report_by g.identity g.log kind b r (rw h at e))
    act_by most (roam t l) g e = rename_by most g.log l g
    act_by most (change t l) g e = rename_by most [] l g
