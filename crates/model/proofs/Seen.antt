-- What a station is for one sender: its timer, its identity, its log and the sender's own slot. Every call makes of it what it makes of the station,
-- another sender's call no more than a bare clock reading, and the reply to a sender follows from it.
-- Assumes nothing.
use Rattle.std.proofs.Common.{ℕ, ◌≡◌, refl, sym, ◌∙◌, ap, Bool, true, false, not, List, [], ◌∷◌, map, eqb}
use Rattle.std.proofs.Math.Option.{Option, none, some, some-injective}
use Rattle.std.proofs.Math.Option
use Rattle.laws.specs.Choice.{when◌then◌else◌}
use Rattle.laws.proofs.Choice.{either}
use Rattle.octets.specs.declared.numbers.Kind.{Kind}
use Rattle.octets.specs.declared.numbers.Kind.TheVariants.{Event, Diagnostic}
use Rattle.octets.specs.Addresses.{same, is_group}
use Rattle.octets.specs.Refusals.{group_destination, unknown_requester}
use Rattle.octets.proofs.AddressLaws.{same_true}
use Rattle.events.specs.declared.Entry.{Entry}
use Rattle.model.specs.Clocks.{Timer, Clock, advanced}
use Rattle.model.specs.Model.{Capacities, Address, Listed, Requester, Station, Call, clock, logging, frame, report, roam, change, accepted, Result}
use Rattle.requests.specs.Requests.{read_request, Request}
use Rattle.events.specs.Loggings.{LoggedEvent, entry_of}
use Rattle.events.specs.Log.{pushed}
use Rattle.model.specs.Requesters.{bad_list, new_requester, find, put}
use Rattle.model.specs.Stations.{refused_for, timed, tick_requester, without_late, tick, lower_requester, log_requester, log_entry, log_cause, log_call, Served, with_requester, serve_found, serve_listed, take_kind, take_request, request_call, frame_call, give_events, give_diagnostics, if_outstanding, octets_of, give_kind, give_report, report_call, rename_with, rename, act, reading_of, step}
use Rattle.model.specs.Runs.{sender, Reply, reply, to_sender}
use Rattle.laws.proofs.Choice.{apply_if}
use Rattle.octets.proofs.AddressLaws.{same_sym}
use Rattle.model.specs.Independence.{quiet_for, quiet}

-- ---- the requester that an address finds

-- a function that keeps what each requester was named by: its address, and its form
abbrev pub SameName : Requester → Requester → Type 0
SameName x r = (x.address ≡ r.address) × (x.form ≡ r.form)

abbrev pub Keeps : (Requester → Requester) → Type 0
Keeps f = (r : Requester) → SameName (f r) r

pub find-map : (f : Requester → Requester) → Keeps f → (s : Address) (rs : List Requester) → find s (map f rs) ≡ Option.map f (find s rs)
unfolding find
find-map f k s [] = refl
find-map f k s (r ∷ rs) =
    ap (λ (a : Address). when same s a then some (f r) else find s (map f rs)) (k r).0
    ∙ ap (λ (o : Option Requester). when same s r.address then some (f r) else o) (find-map f k s rs)
    ∙ sym (apply_if (Option.map f) (same s r.address) (some r) (find s rs))

module _ (a : Address) (x r : Requester) (keeps : x.address ≡ r.address) where
  pub put_own : (rs : List Requester) → find a rs ≡ some r → find a (put a x rs) ≡ some x
  unfolding find put when◌then◌else◌
  put_own [] e = cc
  put_own (q ∷ rs) e = go (same a q.address) refl e (put_own rs)
    where
      go : (t : Bool) → same a q.address ≡ t → (when t then some q else find a rs) ≡ some r → (find a rs ≡ some r → find a (put a x rs) ≡ some x)
          → find a (when t then x ∷ rs else q ∷ put a x rs) ≡ some x
      go true p h rest =
          let d : x.address ≡ q.address = keeps ∙ ap (λ (y : Requester). y.address) (sym (some-injective q r h)) in
          rw (d, p)
      go false p h rest = rw (p) (rest h)

  pub put_other : (s : Address) → same a s ≡ false → (rs : List Requester) → find a rs ≡ some r → find s (put a x rs) ≡ find s rs
  unfolding find put when◌then◌else◌
  put_other s n [] e = refl
  put_other s n (q ∷ rs) e = go (same a q.address) refl e (put_other s n rs)
    where
      apart : same a q.address ≡ true → same s q.address ≡ false
      apart p = ap (same s) (sym (same_true a q.address p)) ∙ same_sym s a ∙ n

      go : (t : Bool) → same a q.address ≡ t → (when t then some q else find a rs) ≡ some r → (find a rs ≡ some r → find s (put a x rs) ≡ find s rs)
          → find s (when t then x ∷ rs else q ∷ put a x rs) ≡ (when same s q.address then some q else find s rs)
      go true p h rest =
          let d : x.address ≡ q.address = keeps ∙ ap (λ (y : Requester). y.address) (sym (some-injective q r h)) in
          rw (d, apart p)
      go false p h rest = ap (λ (o : Option Requester). when same s q.address then some q else o) (rest h)

-- ---- what a sender sees

pub record Seen : Type 0 where
  pub timer : Timer
  pub identity : Option (List ℕ)
  pub log : List Entry
  pub slot : Option Requester

unfoldable pub seen : Address → Station → Seen
seen s g = record { timer = g.timer; identity = g.identity; log = g.log; slot = find s g.requesters }

abbrev with_slot : Seen → Option Requester → Seen
with_slot v o = record { timer = v.timer; identity = v.identity; log = v.log; slot = o }

abbrev on_slot : (Requester → Requester) → Seen → Seen
on_slot f v = with_slot v (Option.map f v.slot)

unfoldable pub tick_seen : Clock → ℕ → Seen → Seen
tick_seen k reading v =
    let t = advanced k v.timer reading in
    record { timer = t; identity = v.identity; log = v.log; slot = Option.map (tick_requester k.since t.now) v.slot }

pub log_seen : Capacities → ℕ → LoggedEvent → Seen → Seen
log_seen most reading e v =
    when not (eqb (log_cause e) 0) then v
    else record { timer = v.timer; identity = v.identity; log = pushed most.events v.log (entry_of v.timer.now reading e); slot = Option.map (log_requester most v.log) v.slot }

unfoldable pub served_seen : Address → Address → (Requester → Served) → Seen → Seen
served_seen s a serve v = when same a s then on_slot (λ r. (serve r).requester) v else v

renamed_seen : Address → List Entry → List Listed → Seen → Option (List ℕ) → Seen
renamed_seen s log l v none = v
renamed_seen s log l v (some i) = record { timer = v.timer; identity = some i; log = log; slot = find s (map new_requester l) }

pub rename_seen : Capacities → Address → List Entry → List Listed → Seen → Seen
rename_seen most s log l v = when bad_list most.requesters l then v else renamed_seen s log l v v.identity

-- what a call makes of it, the late diagnostics dropped
unfoldable pub act_seen : Clock → Capacities → Address → Call → Seen → Seen
act_seen k most s (clock t) v = v
act_seen k most s (logging t e) v = log_seen most t e v
act_seen k most s (frame t d a o) v = when is_group d then v else served_seen s a (take_request v.timer.now v.log (read_request most.elements o)) v
act_seen k most s (report t a kind b) v = served_seen s a (give_report k.since v.identity v.log kind b) v
act_seen k most s (roam t l) v = rename_seen most s v.log l v
act_seen k most s (change t l) v = rename_seen most s [] l v

unfoldable pub step_seen : Clock → Capacities → Address → Call → Seen → Seen
step_seen k most s c v = act_seen k most s c (tick_seen k (reading_of c) v)

-- ---- every piece keeps the address and the form

pub tick_keeps : (since : ℕ → ℕ → ℕ) (now : ℕ) → Keeps (tick_requester since now)
unfolding tick_requester
tick_keeps since now r = (refl, refl)

pub log_keeps : (most : Capacities) (log : List Entry) → Keeps (log_requester most log)
unfolding log_requester lower_requester
log_keeps most log r = either (λ (x : Requester). SameName x r) _ _ _ (λ _. (refl, refl)) (λ _. (refl, refl))

pub kind_keeps : (now : ℕ) (log : List Entry) (q : Request) (r : Requester) (kind : Kind) → SameName (take_kind now log q r kind) r
unfolding take_kind
kind_keeps now log q r Event = (refl, refl)
kind_keeps now log q r Diagnostic = (refl, refl)

-- a call that keeps those of its requester
abbrev pub ServeKeeps : (Requester → Served) → Type 0
ServeKeeps serve = (r : Requester) → SameName (serve r).requester r

pub take_keeps : (now : ℕ) (log : List Entry) (q : Request) → ServeKeeps (take_request now log q)
unfolding take_request
take_keeps now log q r =
    either (λ (x : Served). SameName x.requester r) _ _ _ (λ _. (refl, refl)) (λ _. kind_keeps now log q r q.kind)

outstanding_keeps : {Q : Type 0} (give : Q → Served) (r : Requester) (b : List ℕ) → ((q : Q) → SameName (give q).requester r)
    → (o : Option Q) → SameName (if_outstanding give r b o).requester r
unfolding if_outstanding
outstanding_keeps give r b k none = (refl, refl)
outstanding_keeps give r b k (some q) = k q

give_kind_keeps : (since : ℕ → ℕ → ℕ) (i : Option (List ℕ)) (log : List Entry) (b : List ℕ) (r : Requester) (kind : Kind) → SameName (give_kind since i log b r kind).requester r
unfolding give_kind give_events give_diagnostics
give_kind_keeps since i log b r Event = outstanding_keeps (give_events since log b r) r b (λ q. (refl, refl)) r.events
give_kind_keeps since i log b r Diagnostic = outstanding_keeps (give_diagnostics (octets_of i) b r) r b (λ q. (refl, refl)) r.diagnostics

pub give_keeps : (since : ℕ → ℕ → ℕ) (i : Option (List ℕ)) (log : List Entry) (kind : Kind) (b : List ℕ) → ServeKeeps (give_report since i log kind b)
unfolding give_report
give_keeps since i log kind b r =
    either (λ (x : Served). SameName x.requester r) _ _ _ (λ _. (refl, refl)) (λ _. give_kind_keeps since i log b r kind)

-- ---- a call makes of what is seen what it makes of the station

seen_tick : (k : Clock) (s : Address) (reading : ℕ) (g : Station) → seen s (tick k reading g) ≡ tick_seen k reading (seen s g)
unfolding seen without_late timed tick_seen
seen_tick k s reading g =
    let t = advanced k g.timer reading in
    ap (λ (o : Option Requester). record { timer = t; identity = g.identity; log = g.log; slot = o })
    (find-map (tick_requester k.since t.now) (tick_keeps k.since t.now) s g.requesters)

seen_log : (most : Capacities) (s : Address) (reading : ℕ) (e : LoggedEvent) (g : Station) → seen s (log_call most reading e g).station ≡ log_seen most reading e (seen s g)
unfolding seen log_call log_entry log_seen
seen_log most s reading e g =
    apply_if (λ (x : Result). seen s x.station) (not (eqb (log_cause e) 0)) _ _
    ∙ ap (λ (o : Option Requester). when not (eqb (log_cause e) 0) then seen s g else record { timer = g.timer; identity = g.identity; log = pushed most.events g.log (entry_of g.timer.now reading e); slot = o })
    (find-map (log_requester most g.log) (log_keeps most g.log) s g.requesters)

module _ (s a : Address) (serve : Requester → Served) (b : List ℕ) (g : Station) (keeps : ServeKeeps serve) where
  seen_found : (o : Option Requester) → find a g.requesters ≡ o → (t : Bool) → same a s ≡ t
      → seen s (serve_found a serve b g o).station ≡ (when t then on_slot (λ r. (serve r).requester) (seen s g) else seen s g)
  unfolding seen serve_found with_requester when◌then◌else◌
  seen_found none e true p =
      let f : find s g.requesters ≡ none = ap (λ (x : Address). find x g.requesters) (sym (same_true a s p)) ∙ e in
      rw f
  seen_found none e false p = refl
  seen_found (some r) e true p =
      let q : a ≡ s = same_true a s p in
      let f : find s g.requesters ≡ some r = ap (λ (x : Address). find x g.requesters) (sym q) ∙ e in
      ap (with_slot (seen s g))
      (ap (λ (x : Address). find s (put x (serve r).requester g.requesters)) q
      ∙ put_own s (serve r).requester r (keeps r).0 g.requesters f
      ∙ ap (Option.map (λ (x : Requester). (serve x).requester)) (sym f))
  seen_found (some r) e false p = ap (with_slot (seen s g)) (put_other a (serve r).requester r (keeps r).0 s p g.requesters e)

  seen_served : seen s (serve_listed a serve b g).station ≡ served_seen s a serve (seen s g)
  unfolding serve_listed served_seen
  seen_served = seen_found (find a g.requesters) refl (same a s) refl

seen_renamed : (s : Address) (log : List Entry) (l : List Listed) (g : Station) (o : Option (List ℕ))
    → seen s (rename_with log l g o).station ≡ renamed_seen s log l (seen s g) o
unfolding seen rename_with renamed_seen
seen_renamed s log l g none = refl
seen_renamed s log l g (some i) = refl

seen_rename : (most : Capacities) (s : Address) (log : List Entry) (l : List Listed) (g : Station) → seen s (rename most log l g).station ≡ rename_seen most s log l (seen s g)
unfolding rename rename_seen seen
seen_rename most s log l g =
    apply_if (λ (x : Result). seen s x.station) (bad_list most.requesters l) _ _
    ∙ ap (λ (v : Seen). when bad_list most.requesters l then seen s g else v) (seen_renamed s log l g g.identity)

seen_act : (k : Clock) (most : Capacities) (s : Address) (c : Call) (g : Station) → seen s (act k.since most c g).station ≡ act_seen k most s c (seen s g)
unfolding act act_seen seen request_call frame_call report_call
seen_act k most s (clock t) g = refl
seen_act k most s (logging t e) g = seen_log most s t e g
seen_act k most s (frame t d a o) g =
    apply_if (λ (x : Result). seen s x.station) (is_group d) _ _
    ∙ ap (λ (v : Seen). when is_group d then seen s g else v)
    (seen_served s a (take_request g.timer.now g.log (read_request most.elements o)) [] g (take_keeps g.timer.now g.log (read_request most.elements o)))
seen_act k most s (report t a kind b) g = seen_served s a (give_report k.since g.identity g.log kind b) b g (give_keeps k.since g.identity g.log kind b)
seen_act k most s (roam t l) g = seen_rename most s g.log l g
seen_act k most s (change t l) g = seen_rename most s [] l g

pub seen_step : (k : Clock) (most : Capacities) (s : Address) (c : Call) (g : Station) → seen s (step k most g c).station ≡ step_seen k most s c (seen s g)
unfolding step step_seen
seen_step k most s c g = seen_act k most s c (tick k (reading_of c) g) ∙ ap (act_seen k most s c) (seen_tick k s (reading_of c) g)

-- ---- a call of another sender makes of it what a bare clock reading does

unserved : (s a : Address) (serve : Requester → Served) (v : Seen) → same a s ≡ false → served_seen s a serve v ≡ v
unfolding served_seen when◌then◌else◌
unserved s a serve v e = rw e

pub quiet_step : (k : Clock) (most : Capacities) (s : Address) (c : Call) (v : Seen) → step_seen k most s (quiet s c) v ≡ step_seen k most s c v
unfolding step_seen sender quiet_for act_seen reading_of when◌then◌else◌
quiet_step k most s (clock t) v = refl
quiet_step k most s (logging t e) v = refl
quiet_step k most s (frame t d a o) v = go (same a s) refl (is_group d)
  where
    w : Seen
    w = tick_seen k t v

    serve : Requester → Served
    serve = take_request w.timer.now w.log (read_request most.elements o)

    go : (b : Bool) → same a s ≡ b → (h : Bool) → step_seen k most s (when b then frame t d a o else clock t) v ≡ (when is_group d then w else served_seen s a serve w)
    go true e h = refl
    go false e h = either (λ (x : Seen). w ≡ x) (is_group d) w (served_seen s a serve w) (λ _. refl) (λ _. sym (unserved s a serve w e))
quiet_step k most s (report t a kind b) v = go (same a s) refl
  where
    w : Seen
    w = tick_seen k t v

    serve : Requester → Served
    serve = give_report k.since w.identity w.log kind b

    go : (x : Bool) → same a s ≡ x → step_seen k most s (when x then report t a kind b else clock t) v ≡ served_seen s a serve w
    go true e = refl
    go false e = sym (unserved s a serve w e)
quiet_step k most s (roam t l) v = refl
quiet_step k most s (change t l) v = refl

-- ---- the reply to a sender follows from what it sees

abbrev pub reply_of : Result → Reply
reply_of x = record { answer = x.answer; buffer = x.buffer }

unfoldable pub served_reply : (Requester → Served) → List ℕ → Option Requester → Reply
served_reply serve b none = record { answer = refused_for unknown_requester; buffer = b }
served_reply serve b (some r) = record { answer = (serve r).answer; buffer = (serve r).buffer }

-- of a call that has a sender
unfoldable pub seen_reply : Clock → Capacities → Call → Seen → Reply
seen_reply k most (frame t d a o) v =
    when is_group d then record { answer = refused_for group_destination; buffer = [] }
    else served_reply (take_request v.timer.now v.log (read_request most.elements o)) [] v.slot
seen_reply k most (report t a kind b) v = served_reply (give_report k.since v.identity v.log kind b) b v.slot
seen_reply k most (clock t) v = record { answer = accepted; buffer = [] }
seen_reply k most (logging t e) v = record { answer = accepted; buffer = [] }
seen_reply k most (roam t l) v = record { answer = accepted; buffer = [] }
seen_reply k most (change t l) v = record { answer = accepted; buffer = [] }

unfoldable pub step_reply : Clock → Capacities → Call → Seen → Reply
step_reply k most c v = seen_reply k most c (tick_seen k (reading_of c) v)

reply-found : (a : Address) (serve : Requester → Served) (b : List ℕ) (g : Station) (o : Option Requester)
    → reply_of (serve_found a serve b g o) ≡ served_reply serve b o
unfolding serve_found served_reply
reply-found a serve b g none = refl
reply-found a serve b g (some r) = refl

module _ (k : Clock) (most : Capacities) (t : ℕ) (a : Address) where
  frame-reply : (d : Address) (o : List ℕ) (g : Station) → reply_of (act k.since most (frame t d a o) g) ≡ seen_reply k most (frame t d a o) (seen a g)
  unfolding act request_call frame_call serve_listed seen_reply seen
  frame-reply d o g =
      apply_if reply_of (is_group d) _ _
      ∙ ap (λ (x : Reply). when is_group d then record { answer = refused_for group_destination; buffer = [] } else x)
      (reply-found a (take_request g.timer.now g.log (read_request most.elements o)) [] g (find a g.requesters))

  report-reply : (kind : Kind) (b : List ℕ) (g : Station) → reply_of (act k.since most (report t a kind b) g) ≡ seen_reply k most (report t a kind b) (seen a g)
  unfolding act report_call serve_listed seen_reply seen
  report-reply kind b g = reply-found a (give_report k.since g.identity g.log kind b) b g (find a g.requesters)

pub seen-reply : (k : Clock) (most : Capacities) (c : Call) (g : Address → Station) → to_sender (sender c) (λ s. reply k most (g s) c) ≡ to_sender (sender c) (λ s. step_reply k most c (seen s (g s)))
unfolding reply step sender to_sender reading_of step_reply
seen-reply k most (clock t) g = refl
seen-reply k most (logging t e) g = refl
seen-reply k most (frame t d a o) g =
    ap (λ (x : Reply). some x) (frame-reply k most t a d o (tick k t (g a)) ∙ ap (seen_reply k most (frame t d a o)) (seen_tick k a t (g a)))
seen-reply k most (report t a kind b) g =
    ap (λ (x : Reply). some x) (report-reply k most t a kind b (tick k t (g a)) ∙ ap (seen_reply k most (report t a kind b)) (seen_tick k a t (g a)))
seen-reply k most (roam t l) g = refl
seen-reply k most (change t l) g = refl
