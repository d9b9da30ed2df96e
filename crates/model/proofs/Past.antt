-- No time that a station keeps is after its latest call, and the log's stamps rise.
-- Assumes nothing.
use Rattle.std.proofs.Common.{ℕ, zero, suc, ◌≤◌, ◌<◌, ◌≡◌, refl, List, [], ◌∷◌, ◌++◌, map, arith, ltb, eqb, length, get_or, drop}
use Rattle.std.proofs.Math.Option.{Option, none, some}
use Rattle.laws.proofs.Choice.{either}
use Rattle.octets.specs.declared.numbers.Kind.{Kind}
use Rattle.octets.specs.declared.numbers.Kind.TheVariants.{Event, Diagnostic}
use Rattle.octets.specs.Addresses.{same}
use Rattle.requests.specs.Requests.{read_request, Request}
use Rattle.events.specs.declared.Entry.{Entry}
use Rattle.events.specs.Log.{pushed, past_log, stamp_of}
use Rattle.events.specs.Loggings.{entry_with, entry_of}
use Rattle.model.specs.declared.Diagnostic.{Diagnostic as DiagnosticElement}
use Rattle.model.specs.Model.{Capacities, Address, Listed, EventRequest, DiagnosticRequest, Requester, Station, Call, clock, logging, frame, report, roam, change, Result}
use Rattle.model.specs.Dialogs.{replace}
use Rattle.model.specs.Requesters.{new_requester, find, put}
use Rattle.model.specs.Diagnostics.{unless_over, drop_late, diagnostics_of, take_diagnostics}
use Rattle.model.specs.Stations.{tick_requester, without_late, lower_requester, log_requester, log_entry, log_call, Served, with_requester, serve_found, serve_listed, take_kind, take_request, request_call, frame_call, give_events, give_diagnostics, if_outstanding, octets_of, give_kind, give_report, report_call, rename_with, rename, act}
use Rattle.model.specs.Ages.{OfRequest, OfDrop}

-- the earlier time is not after the later one
abbrev pub Before : ℕ → ℕ → Type 0
Before later earlier = earlier ≤ later

-- ---- the log

-- from lo to hi each stamp is at least the one before it
unfoldable pub Rising : ℕ → List Entry → ℕ → Type 0
Rising lo [] hi = lo ≤ hi
Rising lo (e ∷ log) hi = (lo ≤ stamp_of e) × Rising (stamp_of e) log hi

rising_from : (lo lo' hi : ℕ) (log : List Entry) → lo ≤ lo' → Rising lo' log hi → Rising lo log hi
unfolding Rising
rising_from lo lo' hi [] h r = omega arith
rising_from lo lo' hi (e ∷ log) h r = (omega (arith, r.0), r.1)

rising_to : (lo hi hi' : ℕ) (log : List Entry) → hi ≤ hi' → Rising lo log hi → Rising lo log hi'
unfolding Rising
rising_to lo hi hi' [] h r = omega arith
rising_to lo hi hi' (e ∷ log) h r = (r.0, rising_to (stamp_of e) hi hi' log h r.1)

rising_end : (lo hi : ℕ) (log : List Entry) (e : Entry) → stamp_of e ≡ hi → Rising lo log hi → Rising lo (log ++ (e ∷ [])) hi
unfolding Rising
rising_end lo hi [] e h r = (omega arith, omega arith)
rising_end lo hi (x ∷ log) e h r = (r.0, rising_end (stamp_of x) hi log e h r.1)

rising_drop : (lo hi : ℕ) (log : List Entry) → Rising lo log hi → Rising lo (drop 1 log) hi
unfolding Rising
rising_drop lo hi [] r = r
rising_drop lo hi (e ∷ log) r = rising_from lo (stamp_of e) hi log r.0 r.1

rising_push : (n hi : ℕ) (log : List Entry) (e : Entry) → stamp_of e ≡ hi → Rising 0 log hi → Rising 0 (pushed n log e) hi
unfolding pushed
rising_push n hi log e h r =
    rising_end 0 hi _ e h (either (λ (l : List Entry). Rising 0 l hi) (ltb (length log) n) log (drop 1 log) (λ _. r) (λ _. rising_drop 0 hi log r))

rising_least : (lo hi : ℕ) (log : List Entry) → Rising lo log hi → (p : ℕ) → p < length log → lo ≤ stamp_of (get_or log p past_log)
unfolding Rising
rising_least lo hi [] r p h = absurd (omega arith)
rising_least lo hi (e ∷ log) r zero h = r.0
rising_least lo hi (e ∷ log) r (suc p) h = omega (arith, r.0, rising_least (stamp_of e) hi log r.1 p (omega arith))

pub rising_pairs : (lo hi : ℕ) (log : List Entry) → Rising lo log hi → (i p : ℕ) → i ≤ p → p < length log → stamp_of (get_or log i past_log) ≤ stamp_of (get_or log p past_log)
unfolding Rising
rising_pairs lo hi [] r i p h k = absurd (omega arith)
rising_pairs lo hi (e ∷ log) r zero zero h k = omega arith
rising_pairs lo hi (e ∷ log) r zero (suc p) h k = rising_least (stamp_of e) hi log r.1 p (omega arith)
rising_pairs lo hi (e ∷ log) r (suc i) zero h k = absurd (omega arith)
rising_pairs lo hi (e ∷ log) r (suc i) (suc p) h k = rising_pairs (stamp_of e) hi log r.1 i p (omega arith) (omega arith)

-- ---- diagnostics

module _ (now : ℕ) where
  abbrev Is : Option DiagnosticRequest → Type 0
  Is o = OfRequest Before now o

  abbrev Of : Requester → Type 0
  Of r = Is r.diagnostics

  abbrev All : List Requester → Type 0
  All rs = OfDrop Before now rs

  over-past : (d a : ℕ) (xs : List DiagnosticElement) → a ≤ now → Is (unless_over d a xs)
  unfolding unless_over OfRequest
  over-past d a [] h = tt
  over-past d a (x ∷ xs) h = h

  late-past : (since : ℕ → ℕ → ℕ) (o : Option DiagnosticRequest) → Is o → Is (drop_late since now o)
  unfolding drop_late OfRequest
  late-past since none h = tt
  late-past since (some q) h = over-past q.dialog q.accepted _ h

  take_past : (q : Request) (o : Option DiagnosticRequest) → Is o → Is (take_diagnostics now q o)
  unfolding take_diagnostics replace OfRequest
  take_past q o h = either Is _ _ _ (λ _. tt) (λ _. go o h)
    where
      new : Is (unless_over q.dialog now (diagnostics_of q))
      new = over-past q.dialog now (diagnostics_of q) (omega arith)

      go : (o : Option DiagnosticRequest) → Is o → Is (replace (λ r. eqb q.dialog r.dialog) (unless_over q.dialog now (diagnostics_of q)) o)
      go none h = new
      go (some r) h = either Is _ _ _ (λ _. h) (λ _. new)

  -- ---- requesters

  map-past : (f : Requester → Requester) → ((r : Requester) → Of r → Of (f r)) → (rs : List Requester) → All rs → All (map f rs)
  unfolding OfDrop
  map-past f e [] h = tt
  map-past f e (r ∷ rs) h = (e r h.0, map-past f e rs h.1)

  pub new-past : (l : List Listed) → All (map new_requester l)
  unfolding OfDrop OfRequest new_requester
  new-past [] = tt
  new-past (a ∷ l) = (tt, new-past l)

  put-past : (a : Address) (x : Requester) → Of x → (rs : List Requester) → All rs → All (put a x rs)
  unfolding put OfDrop
  put-past a x e [] h = tt
  put-past a x e (r ∷ rs) h = either All (same a r.address) (x ∷ rs) (r ∷ put a x rs) (λ _. (e, h.1)) (λ _. (h.0, put-past a x e rs h.1))

  unfoldable Found : Option Requester → Type 0
  Found none = Unit {0}
  Found (some r) = Of r

  find_past : (a : Address) (rs : List Requester) → All rs → Found (find a rs)
  unfolding find Found OfDrop
  find_past a [] h = tt
  find_past a (r ∷ rs) h = either Found (same a r.address) (some r) (find a rs) (λ _. h.0) (λ _. find_past a rs h.1)

  -- ---- calls

  abbrev pub Past : Station → Type 0
  Past g = All g.requesters × Rising 0 g.log now

  found-past : (a : Address) (serve : Requester → Served) → ((r : Requester) → Of r → Of (serve r).requester) → (b : List ℕ) (g : Station) → Past g
      → (o : Option Requester) → Found o → Past (serve_found a serve b g o).station
  unfolding serve_found with_requester Found
  found-past a serve e b g h none f = h
  found-past a serve e b g h (some r) f = (put-past a (serve r).requester (e r f) g.requesters h.0, h.1)

  listed_past : (a : Address) (serve : Requester → Served) → ((r : Requester) → Of r → Of (serve r).requester) → (b : List ℕ) (g : Station) → Past g
      → Past (serve_listed a serve b g).station
  unfolding serve_listed
  listed_past a serve e b g h = found-past a serve e b g h (find a g.requesters) (find_past a g.requesters h.0)

  request_past : (log : List Entry) (q : Request) (r : Requester) → Of r → Of (take_request now log q r).requester
  unfolding take_request take_kind
  request_past log q r h = either (λ (x : Served). Of x.requester) _ _ _ (λ _. h) (λ _. go q.kind)
    where
      go : (kind : Kind) → Of (take_kind now log q r kind)
      go Event = h
      go Diagnostic = take_past q r.diagnostics h

  give_past : (since : ℕ → ℕ → ℕ) (i : Option (List ℕ)) (log : List Entry) (kind : Kind) (b : List ℕ) (r : Requester) → Of r → Of (give_report since i log kind b r).requester
  unfolding give_report give_kind if_outstanding give_events give_diagnostics OfRequest
  give_past since i log kind b r h = either (λ (x : Served). Of x.requester) _ _ _ (λ _. h) (λ _. go kind)
    where
      events : (o : Option EventRequest) → Of (if_outstanding (give_events since log b r) r b o).requester
      events none = h
      events (some q) = h

      diagnostics : (o : Option DiagnosticRequest) → Is o → Of (if_outstanding (give_diagnostics (octets_of i) b r) r b o).requester
      diagnostics none e = h
      diagnostics (some q) e = over-past q.dialog q.accepted _ e

      go : (kind : Kind) → Of (give_kind since i log b r kind).requester
      go Event = events r.events
      go Diagnostic = diagnostics r.diagnostics h

  rename-past : (most : Capacities) (log : List Entry) (l : List Listed) (g : Station) → Rising 0 log now → Past g → Past (rename most log l g).station
  unfolding rename rename_with
  rename-past most log l g e h = either (λ (x : Result). Past x.station) _ _ _ (λ _. h) (λ _. go g.identity)
    where
      go : (o : Option (List ℕ)) → Past (rename_with log l g o).station
      go none = h
      go (some i) = (new-past l, e)

  lower_past : (most : Capacities) (log : List Entry) (r : Requester) → Of r → Of (log_requester most log r)
  unfolding log_requester lower_requester
  lower_past most log r h = either Of _ _ _ (λ _. h) (λ _. h)

  mono_past : (rs : List Requester) (n : ℕ) → n ≤ now → OfDrop Before n rs → All rs
  unfolding OfDrop OfRequest
  mono_past [] n e h = tt
  mono_past (r ∷ rs) n e h = (go r.diagnostics h.0, mono_past rs n e h.1)
    where
      go : (o : Option DiagnosticRequest) → OfRequest Before n o → Is o
      go none h = tt
      go (some q) h = omega arith

  pub past-later : (g : Station) (n : ℕ) → n ≤ now → OfDrop Before n g.requesters → Rising 0 g.log n → Past g
  past-later g n e h k = (mono_past g.requesters n e h, rising_to 0 n now g.log e k)

pub drop_past : (since : ℕ → ℕ → ℕ) (g : Station) → Past g.timer.now g → Past g.timer.now (without_late since g)
unfolding without_late tick_requester
drop_past since g h = (map-past g.timer.now (tick_requester since g.timer.now) (λ r e. late-past g.timer.now since r.diagnostics e) g.requesters h.0, h.1)

pub act-past : (since : ℕ → ℕ → ℕ) (most : Capacities) (x : Call) (g : Station) → Past g.timer.now g → Past g.timer.now (act since most x g).station
unfolding act log_call log_entry request_call frame_call report_call Rising entry_with
act-past since most (clock t) g h = h
act-past since most (logging t y) g h =
    let n = g.timer.now in
    either (λ (x : Result). Past n x.station) _ _ _ (λ _. h)
    (λ _. (map-past n (log_requester most g.log) (lower_past n most g.log) g.requesters h.0, rising_push most.events n g.log (entry_of n t y) refl h.1))
act-past since most (frame t d a o) g h =
    let n = g.timer.now in
    either (λ (x : Result). Past n x.station) _ _ _ (λ _. h)
    (λ _. listed_past n a (take_request n g.log (read_request most.elements o)) (request_past n g.log (read_request most.elements o)) [] g h)
act-past since most (report t a kind b) g h = listed_past g.timer.now a _ (give_past g.timer.now since g.identity g.log kind b) b g h
act-past since most (roam t l) g h = rename-past g.timer.now most g.log l g h.1 h
act-past since most (change t l) g h = rename-past g.timer.now most [] l g (omega arith) h
