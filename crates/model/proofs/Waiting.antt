-- Document 02 (e): what each call makes of a request, by its kind and dialog token (`StationFate`); then a list of calls.
-- Assumes nothing.
use Rattle.std.proofs.Common.{ℕ, ◌+◌, ◌-◌, ◌≤◌, ◌<◌, ◌≡◌, refl, sym, ◌∙◌, ap, ◌⊎◌, inl, inr, ⊎_elim, Bool, true, false, not, ◌&&◌, ◌||◌, List, [], ◌∷◌, map, arith, eqb, length, drop}
use Rattle.std.proofs.Math.Bool.{and-false}
use Rattle.std.proofs.Math.Option.{Option, none, some}
use Rattle.std.proofs.Math.Option
use Rattle.laws.specs.Choice.{when◌then◌else◌}
use Rattle.laws.specs.Members.{All, nil, also}
use Rattle.laws.proofs.Choice.{either, never}
use Rattle.std.proofs.lemmas.Bool.{and_parts}
use Rattle.laws.proofs.Members.{all_end}
use Rattle.octets.specs.declared.numbers.Kind.{Kind}
use Rattle.octets.specs.declared.numbers.Kind.TheVariants.{Event, Diagnostic}
use Rattle.octets.specs.Addresses.{same}
use Rattle.octets.specs.Refusals.{unknown_requester}
use Rattle.octets.proofs.AddressLaws.{same_true}
use Rattle.requests.specs.Requests.{read_request, Request}
use Rattle.requests.proofs.Laws.{request_few, request_some}
use Rattle.events.specs.declared.Entry.{Entry}
use Rattle.events.specs.Log.{pushed}
use Rattle.events.specs.Loggings.{LoggedEvent, EventLengths}
use Rattle.events.proofs.LogLaws.{pushed_few}
use Rattle.identities.proofs.Laws.{identity_most}
use Rattle.model.specs.Clocks.{Clock}
use Rattle.model.specs.Model.{Capacities, standard, Address, Listed, Requester, Station, Call, clock, logging, frame, report, roam, change, Answer, accepted, nothing, of_length, turned_away, Result}
use Rattle.model.specs.Requesters.{new_requester, find, put}
use Rattle.model.specs.Outstanding.{dialog_of, dialog_in, outstanding_dialog}
use Rattle.model.specs.Stations.{refused_for, setup, timed, tick_requester, without_late, tick, log_requester, log_entry, log_call, Served, with_requester, serve_found, serve_listed, take_request, request_call, frame_call, octets_of, give_report, report_call, rename_with, rename, act, reading_of, step}
use Rattle.model.specs.Runs.{run, HandedIn, EachCall}
use Rattle.model.specs.Sound.{Identified, identified, unidentified}
use Rattle.model.specs.Independence.{is_accepted}
use Rattle.model.specs.Waiting.{Opens, Stays, same_kind, frames_in, frames_for, frames_given, cancels, ends_request, Spares, IsOver, late, done, AsWorded, UpToCall, Becomes, still, over-at, ended_at, OnceOpened, OverWithin, RequestsEnd, RequestsEndStandard}
use Rattle.model.proofs.Seen.{find-map, put_own, put_other, Keeps, tick_keeps, log_keeps, ServeKeeps, take_keeps, give_keeps}
use Rattle.model.proofs.CallLaws.{step-identity, act-log, setup_blank}
use Rattle.model.proofs.Sound.{always_sound}
use Rattle.model.proofs.FramesLeft.{event-fits, ShortEntry, left, left_one, Fate, stays, over, gone, FateIn, tick_fate, log_fate, take_fate, take-named, Short, give_fate, most_frames, Enough, take-opens}

-- ---- a call on a station

left_in : Kind → Option Requester → ℕ
left_in kind none = 1
left_in kind (some r) = left kind r

some_left : (kind : Kind) (o : Option Requester) → 1 ≤ left_in kind o
unfolding left_in
some_left kind none = omega arith
some_left kind (some r) = left_one kind r

new_none : (kind : Kind) (s : Address) (l : List Listed) → dialog_in kind (find s (map new_requester l)) ≡ none
unfolding find new_requester dialog_in dialog_of
new_none kind s [] = refl
new_none kind s (a ∷ l) = either (λ (o : Option Requester). dialog_in kind o ≡ none) _ _ _ (λ _. go kind) (λ _. new_none kind s l)
  where
    go : (kind : Kind) → dialog_of kind (new_requester a) ≡ none
    go Event = refl
    go Diagnostic = refl

abbrev ShortIn : Station → Type 0
ShortIn g = Short g.log g.identity

-- what becomes of a request of s on the station u, which has these requesters afterwards
abbrev StationFate : Kind → Address → ℕ → Station → Bool → ℕ → List Requester → Type 0
StationFate kind s n u ended frames rs =
    Fate (ShortIn u) n ended frames (left_in kind (find s u.requesters)) (dialog_in kind (find s rs)) (left_in kind (find s rs))

module _ (most : Capacities) (kind : Kind) (s : Address) (n : ℕ) (u : Station) (was : outstanding_dialog kind s u ≡ some n) where
  abbrev FateAt : Bool → ℕ → List Requester → Type 0
  FateAt = StationFate kind s n u

  same_fate : (ended : Bool) (frames : ℕ) → ended ≡ false → frames ≡ 0 → FateAt ended frames u.requesters
  same_fate ended frames e f = stays e was (λ _. omega arith)

  map_fate : (f : Requester → Requester) → Keeps f → ((r : Requester) → dialog_of kind r ≡ some n → FateIn (ShortIn u) n kind false 0 r (f r)) → FateAt false 0 (map f u.requesters)
  unfolding dialog_in left_in
  map_fate f keeps h = rw (find-map f keeps s u.requesters) (go (find s u.requesters) was)
    where
      go : (o : Option Requester) → dialog_in kind o ≡ some n → Fate (ShortIn u) n false 0 (left_in kind o) (dialog_in kind (Option.map f o)) (left_in kind (Option.map f o))
      go none e = never cc
      go (some r) e = h r e

  -- a call of the requester at an address
  module _ (a : Address) (serve : Requester → Served) (keeps : ServeKeeps serve) (b : List ℕ) (ends : Answer → Bool) (frames : Answer → ℕ)
      (other : (x : Answer) → same a s ≡ false → (ends x ≡ false) × (frames x ≡ 0))
      (own : same a s ≡ true → (r : Requester) → dialog_of kind r ≡ some n → FateIn (ShortIn u) n kind (ends (serve r).answer) (frames (serve r).answer) r (serve r).requester) where
    found_fate : ends (refused_for unknown_requester) ≡ false → frames (refused_for unknown_requester) ≡ 0 → (o : Option Requester) → find a u.requesters ≡ o
        → let x = serve_found a serve b u o in FateAt (ends x.answer) (frames x.answer) x.station.requesters
    unfolding serve_found with_requester dialog_in left_in
    found_fate e f none p = same_fate _ _ e f
    found_fate e f (some r) p = by_sender (same a s) refl
      where
        rs : List Requester
        rs = u.requesters

        x : Requester
        x = (serve r).requester

        by_sender : (t : Bool) → same a s ≡ t → FateAt (ends (serve r).answer) (frames (serve r).answer) (put a x rs)
        by_sender true q =
            let own-address : a ≡ s = same_true a s q in
            let before : find s rs ≡ some r = ap (λ (y : Address). find y rs) (sym own-address) ∙ p in
            let after : find s (put a x rs) ≡ some x = ap (λ (y : Address). find s (put y x rs)) own-address ∙ put_own s x r (keeps r).0 rs before in
            rw (after, before) (own q r (rw before at was))
        by_sender false q = let y = other (serve r).answer q in rw (put_other a x r (keeps r).0 s q rs p) (same_fate _ _ y.0 y.1)

  rename_fate : (log : List Entry) (l : List Listed) → FateAt (is_accepted (rename most log l u).answer) 0 (rename most log l u).station.requesters
  unfolding rename rename_with is_accepted
  rename_fate log l = either (λ (x : Result). FateAt (is_accepted x.answer) 0 x.station.requesters) _ _ _ (λ _. same_fate _ _ refl refl) (λ _. go u.identity)
    where
      go : (o : Option (List ℕ)) → FateAt (is_accepted (rename_with log l u o).answer) 0 (rename_with log l u o).station.requesters
      go none = same_fate _ _ refl refl
      go (some i) = gone refl (λ e. never (let z : none ≡ some n = sym (new_none kind s l) ∙ e in cc))

  act_fate : (since : ℕ → ℕ → ℕ) (c : Call) → let x = act since most c u in FateAt (ends_request most kind s n c x.answer) (frames_for kind s c x.answer) x.station.requesters
  unfolding act log_call log_entry request_call frame_call report_call serve_listed ends_request frames_for frames_in is_accepted
  act_fate since (clock t) = same_fate _ _ refl refl
  act_fate since (logging t x) =
      either (λ (y : Result). FateAt false 0 y.station.requesters) _ _ _ (λ _. same_fate _ _ refl refl)
      (λ _. map_fate (log_requester most u.log) (log_keeps most u.log) (log_fate _ n most u.log kind))
  act_fate since (frame t d a o) =
      let q = read_request most.elements o in
      let ends : Answer → Bool = λ (x : Answer). is_accepted x && (same a s && (same_kind q.kind kind && (cancels kind q || not (eqb q.dialog n)))) in
      either (λ (x : Result). FateAt (ends x.answer) 0 x.station.requesters) _ _ _ (λ _. same_fate _ _ refl refl)
      (λ _. found_fate a (take_request u.timer.now u.log q) (take_keeps u.timer.now u.log q) [] ends (λ _. 0)
      (λ x e. (rw e (and-false (is_accepted x)), refl)) (λ e r p. rw e (take_fate _ n u.timer.now u.log q kind r p)) refl refl (find a u.requesters) refl)
  act_fate since (report t a asked b) =
      let frames : Answer → ℕ = λ (x : Answer). when same a s && same_kind asked kind then frames_in x else 0 in
      found_fate a (give_report since u.identity u.log asked b) (give_keeps since u.identity u.log asked b) b (λ _. false) frames
      (λ x e. (refl, either (λ (m : ℕ). m ≡ 0) _ _ _ (λ h. never (sym e ∙ (and_parts _ _ h).0)) (λ _. refl)))
      (λ e r p. rw e (give_fate since u.identity u.log b n asked kind r p)) refl (either (λ (m : ℕ). m ≡ 0) _ 0 0 (λ _. refl) (λ _. refl)) (find a u.requesters) refl
  act_fate since (roam t l) = rename_fate u.log l
  act_fate since (change t l) = rename_fate [] l

-- what is known of it where it stays, and where it is not replaced or ended
module _ {Short : Type 0} {n : ℕ} {ended : Bool} {frames before : ℕ} {d : Option ℕ} {after : ℕ} where
  fate_spared : Fate Short n ended frames before d after → d ≡ some n → ended ≡ false
  fate_spared (stays e p h) q = e
  fate_spared (over e p) q = e
  fate_spared (gone e p) q = absurd (p q)

  fate_falls : Fate Short n ended frames before d after → d ≡ some n → Short → frames + after ≤ before
  fate_falls (stays e p h) q short = h short
  fate_falls (over e p) q short = never (let z : none ≡ some n = sym p ∙ q in cc)
  fate_falls (gone e p) q short = absurd (p q)

  fate_either : Fate Short n ended frames before d after → ended ≡ false → (d ≡ some n) ⊎ (d ≡ none)
  fate_either (stays e p h) q = inl p
  fate_either (over e p) q = inr p
  fate_either (gone e p) q = never (sym q ∙ e)

-- ---- what every call keeps: the log is short, and so are its report elements

short-pushed : (n : ℕ) (log : List Entry) (e : Entry) → All ShortEntry log → ShortEntry e → All ShortEntry (pushed n log e)
unfolding pushed
short-pushed n log e h q = all_end _ (either (All ShortEntry) _ log (drop 1 log) (λ _. h) (λ _. less log h)) q
  where
    less : (log : List Entry) → All ShortEntry log → All ShortEntry (drop 1 log)
    less [] nil = nil
    less (e ∷ log) (also h hs) = hs

handed_event : (c : Call) (t : ℕ) (x : LoggedEvent) → c ≡ logging t x → HandedIn c → EventLengths x
handed_event c t x e h = rw e at h

module _ (k : Clock) (most : Capacities) where
  step-short : (g : Station) (c : Call) → HandedIn c → ShortIn g → ShortIn (step k most g c).station
  unfolding step without_late timed ShortEntry
  step-short g c h short = (
    act-log (All ShortEntry) nil k.since most c (tick k (reading_of c) g)
        (λ t x e good. short-pushed _ _ _ short.0 (λ form token. event-fits form token _ t x (handed_event c t x e h) good)) short.0,
    rw (step-identity k most g c) short.1,
  )

  run_short : (cs : List Call) (g : Station) → All HandedIn cs → ShortIn g → ShortIn (run k most g cs)
  unfolding run
  run_short [] g nil short = short
  run_short (c ∷ cs) g (also h hs) short = run_short cs (step k most g c).station hs (step-short g c h short)

  run_few : 1 ≤ most.events → (cs : List Call) (g : Station) → length g.log ≤ most.events → length (run k most g cs).log ≤ most.events
  unfolding run step without_late timed
  run_few one [] g few = few
  run_few one (c ∷ cs) g few =
      run_few one cs (step k most g c).station
      (act-log (λ (log : List Entry). length log ≤ most.events) (omega arith) k.since most c (tick k (reading_of c) g) (λ t x e good. pushed_few most.events g.log _ one few) few)

module _ (most : Capacities) (i : List ℕ) (l : List Listed) where
  setup-log : (setup most i l).station.log ≡ []
  setup-log = ap (λ (g : Station). g.log) (setup_blank most i l).2

  -- a log has at most so many entries
  pub log_few : (k : Clock) → 1 ≤ most.events → (cs : List Call) → length (run k most (setup most i l).station cs).log ≤ most.events
  log_few k one cs = run_few k most one cs (setup most i l).station (rw setup-log (omega arith))

  identity-short : (g : Station) → Identified i g → length (octets_of g.identity) ≤ 252
  unfolding octets_of
  identity-short g (identified e good) = rw e (identity_most i good)
  identity-short g (unidentified e unnamed) = rw e (omega arith)

  setup-short : ShortIn (setup most i l).station
  setup-short = (rw setup-log nil, identity-short _ (always_sound.at-setup most i l []).identity)

-- ---- lists of calls

-- a call gives one frame at most
frames-one : (kind : Kind) (s : Address) (c : Call) (x : Answer) → frames_for kind s c x ≤ 1
unfolding frames_for frames_in
frames-one kind s (clock t) x = omega arith
frames-one kind s (logging t e) x = omega arith
frames-one kind s (frame t d a o) x = omega arith
frames-one kind s (report t a asked b) x = either (λ (m : ℕ). m ≤ 1) _ _ _ (λ _. go x) (λ _. omega arith)
  where
    go : (x : Answer) → frames_in x ≤ 1
    go accepted = omega arith
    go nothing = omega arith
    go (of_length n) = omega arith
    go (turned_away r) = omega arith
frames-one kind s (roam t l) x = omega arith
frames-one kind s (change t l) x = omega arith

module _ (k : Clock) (most : Capacities) (kind : Kind) (s : Address) (n : ℕ) where
  abbrev frames_left : Station → ℕ
  frames_left g = left_in kind (find s g.requesters)

  -- the late drop of a call, and the call
  drop_fate : (t : ℕ) (g : Station) → outstanding_dialog kind s g ≡ some n → StationFate kind s n g false 0 (tick k t g).requesters
  unfolding without_late timed
  drop_fate t g was =
      map_fate most kind s n g was (tick_requester k.since (k.time g.timer t)) (tick_keeps k.since (k.time g.timer t)) (tick_fate _ n k.since (k.time g.timer t) kind)

  step_fate : (g : Station) (c : Call) → outstanding_dialog kind s (tick k (reading_of c) g) ≡ some n → let x = step k most g c in
      StationFate kind s n (tick k (reading_of c) g) (ends_request most kind s n c x.answer) (frames_for kind s c x.answer) x.station.requesters
  unfolding step
  step_fate g c was = act_fate most kind s n (tick k (reading_of c) g) was k.since c

  spared : (g : Station) (c : Call) → Stays k most kind s n g c → Spares k most kind s n g c
  spared g c e = fate_spared (step_fate g c e.0) e.1

  stays_or_over : (g : Station) (c : Call) → outstanding_dialog kind s g ≡ some n → Spares k most kind s n g c → Stays k most kind s n g c ⊎ IsOver k most kind s g c
  stays_or_over g c was spares =
      ⊎_elim (λ e. ⊎_elim (λ p. inl (e, p)) (λ p. inr (done p)) (fate_either (step_fate g c e) spares)) (λ e. inr (late e)) (fate_either (drop_fate (reading_of c) g was) refl)

  -- the frames that a call gives are taken from those that the request may still give
  call_falls : (g : Station) (c : Call) → ShortIn g → outstanding_dialog kind s g ≡ some n → Stays k most kind s n g c
      → frames_for kind s c (step k most g c).answer + frames_left (step k most g c).station ≤ frames_left g
  unfolding without_late timed
  call_falls g c short was e = omega (arith, fate_falls (drop_fate (reading_of c) g was) e.0 short, fate_falls (step_fate g c e.0) e.1 short)

  calls_fall : (cs : List Call) (g : Station) → All HandedIn cs → ShortIn g → outstanding_dialog kind s g ≡ some n → EachCall (Stays k most kind s n) k most g cs
      → frames_given k most kind s g cs < frames_left g
  unfolding EachCall frames_given
  calls_fall [] g nil short was e = some_left kind (find s g.requesters)
  calls_fall (c ∷ cs) g (also h hs) short was e =
      omega (arith, call_falls g c short was e.0, calls_fall cs (step k most g c).station hs (step-short k most g c h short) e.0.1 e.1)

  -- a call that is the first, or one behind it
  here : (g : Station) (c : Call) (cs : List Call) → UpToCall k most kind s n g (c ∷ cs)
  unfolding EachCall
  here g c cs = record { earlier = []; call = c; later = cs; split = refl; stayed = tt }

  behind : (g : Station) (c : Call) (cs : List Call) → Stays k most kind s n g c → UpToCall k most kind s n (step k most g c).station cs → UpToCall k most kind s n g (c ∷ cs)
  unfolding EachCall
  behind g c cs e x = record { earlier = c ∷ x.earlier; call = x.call; later = x.later; split = ap (λ (l : List Call). c ∷ l) x.split; stayed = (e, x.stayed) }

  becomes-behind : (bound rest : ℕ) (g : Station) (c : Call) (cs : List Call) → frames_for kind s c (step k most g c).answer + rest ≤ bound → Stays k most kind s n g c
      → Becomes k most kind s n rest (step k most g c).station cs → Becomes k most kind s n bound g (c ∷ cs)
  unfolding EachCall frames_given run behind
  becomes-behind bound rest g c cs h e (still x few) = still (e, x) (omega arith)
  becomes-behind bound rest g c cs h e (over-at x is few) = over-at (behind g c cs e x) is (omega arith)
  becomes-behind bound rest g c cs h e (ended_at x was is) = ended_at (behind g c cs e x) was is

  calls_become : (cs : List Call) (g : Station) (bound : ℕ) → All HandedIn cs → ShortIn g → outstanding_dialog kind s g ≡ some n → frames_left g ≤ bound → Becomes k most kind s n bound g cs
  unfolding EachCall frames_given run here
  calls_become [] g bound nil short was m = still tt (omega (arith, some_left kind (find s g.requesters)))
  calls_become (c ∷ cs) g bound (also h hs) short was m =
      by_fate (ends_request most kind s n c (step k most g c).answer) refl (λ p j. calls_become cs (step k most g c).station _ hs (step-short k most g c h short) p j)
    where
      frames : ℕ
      frames = frames_for kind s c (step k most g c).answer

      is-over : IsOver k most kind s g c → Becomes k most kind s n bound g (c ∷ cs)
      is-over o = over-at (here g c cs) o (omega (arith, frames-one kind s c (step k most g c).answer, some_left kind (find s g.requesters)))

      by_fate : (b : Bool) → ends_request most kind s n c (step k most g c).answer ≡ b
          → (outstanding_dialog kind s (step k most g c).station ≡ some n → frames_left (step k most g c).station ≤ bound - frames → Becomes k most kind s n (bound - frames) (step k most g c).station cs)
          → Becomes k most kind s n bound g (c ∷ cs)
      by_fate true e rest = ⊎_elim (λ p. ended_at (here g c cs) p e) (λ p. is-over (late p)) (fate_either (drop_fate (reading_of c) g was) refl)
      by_fate false e rest =
          ⊎_elim (λ p. let f = call_falls g c short was p in becomes-behind bound (bound - frames) g c cs (omega (arith, f)) p (rest p.1 (omega (arith, f)))) is-over (stays_or_over g c was e)

  -- ---- the frame that opens it

  frame-opens : (t : ℕ) (d : Address) (o : List ℕ) (g : Station) → Opens k most kind s n g t d o → Enough most g.log kind
      → frames_left (step k most g (frame t d s o)).station ≤ most_frames most kind
  unfolding step act request_call frame_call serve_listed serve_found with_requester without_late timed reading_of dialog_in left_in
  frame-opens t d o g opens enough = either Few _ _ _ (λ _ p. absurd (opens.was-not p)) (λ _. found (find s u.requesters) refl) opens.is-now
    where
      u : Station
      u = tick k t g

      q : Request
      q = read_request most.elements o

      serve : Requester → Served
      serve = take_request u.timer.now u.log q

      Few : Result → Type 0
      Few x = outstanding_dialog kind s x.station ≡ some n → frames_left x.station ≤ most_frames most kind

      found : (r : Option Requester) → find s u.requesters ≡ r → Few (serve_found s serve [] u r)
      found none e = λ p. absurd (opens.was-not p)
      found (some r) e =
          rw (put_own s (serve r).requester r (take_keeps u.timer.now u.log q r).0 u.requesters e)
          (take-opens most q (request_few most.elements o) n u.timer.now u.log kind enough r (λ p. opens.was-not (rw e p)))

frame-named : (k : Clock) (most : Capacities) (s : Address) (t : ℕ) (d : Address) (o : List ℕ) (g : Station) → let q = read_request most.elements o in
    (step k most g (frame t d s o)).answer ≡ accepted → cancels q.kind q ≡ false → outstanding_dialog q.kind s (step k most g (frame t d s o)).station ≡ some q.dialog
unfolding step act request_call frame_call serve_listed serve_found with_requester reading_of dialog_in
frame-named k most s t d o g e c = either Named _ _ _ (λ _ e. never cc) (λ _. found (find s u.requesters) refl) e
  where
    u : Station
    u = tick k t g

    q : Request
    q = read_request most.elements o

    serve : Requester → Served
    serve = take_request u.timer.now u.log q

    Named : Result → Type 0
    Named x = x.answer ≡ accepted → outstanding_dialog q.kind s x.station ≡ some q.dialog

    found : (r : Option Requester) → find s u.requesters ≡ r → Named (serve_found s serve [] u r)
    found none p = λ e. never cc
    found (some r) p =
        rw (put_own s (serve r).requester r (take_keeps u.timer.now u.log q r).0 u.requesters p)
        (take-named u.timer.now u.log q (request_some most.elements o) c r)

module _ (k : Clock) (most : Capacities) (kind : Kind) (enough : (i : List ℕ) (l : List Listed) (cs : List Call) → Enough most (run k most (setup most i l).station cs).log kind) where
  once_opened : (P : Address → ℕ → Station → List Call → Type 0)
      → ((s : Address) (n : ℕ) (g : Station) (later : List Call) → All HandedIn later → ShortIn g → outstanding_dialog kind s g ≡ some n → frames_left k most kind s n g ≤ most_frames most kind → P s n g later)
      → OnceOpened k most kind P
  once_opened P f i l earlier later h j t n d s o opens =
      let g = run k most (setup most i l).station earlier in
      f s n (step k most g (frame t d s o)).station later j (step-short k most g (frame t d s o) tt (run_short k most earlier (setup most i l).station h (setup-short most i l)))
      opens.is-now (frame-opens k most kind s n t d o g opens (enough i l earlier))

  over-within : OverWithin k most kind (most_frames most kind)
  over-within = record {
    becomes =
        once_opened (λ s n g later. Becomes k most kind s n (most_frames most kind) g later)
        (λ s n g later h short was m. calls_become k most kind s n later g (most_frames most kind) h short was m);
    while-it-stays =
        once_opened (λ s n g later. EachCall (Stays k most kind s n) k most g later → frames_given k most kind s g later < most_frames most kind)
        (λ s n g later h short was m e. omega (arith, calls_fall k most kind s n later g h short was e));
  }

pub as_worded : AsWorded
as_worded = record {
  opens = λ k most s g t d o e c was-not. record { was-not = was-not; is-now = frame-named k most s t d o g e c };
  spared = spared;
  stays = stays_or_over;
}

pub requests_end : RequestsEnd
unfolding most_frames Enough
requests_end = record {
  events = λ k most one some-elements. over-within k most Event (λ i l cs. (one, some-elements, log_few most i l k one cs));
  diagnostics = λ k most. over-within k most Diagnostic (λ i l cs. tt);
}

pub requests_end_standard : RequestsEndStandard
requests_end_standard = record {
  events = λ k. requests_end.events k standard (omega arith) (omega arith);
  diagnostics = λ k. requests_end.diagnostics k standard;
}
