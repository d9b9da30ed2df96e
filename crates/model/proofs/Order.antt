-- Document 02 (j): calls at one reading. A frame changes the first requester of its source, and no other; and a second late drop at one
-- reading finds nothing.
-- Assumes nothing.
use Rattle.std.proofs.Common.{ℕ, ◌≡◌, refl, sym, ◌∙◌, ap, ap₂, Bool, true, false, List, [], ◌∷◌, map, arith, eqb, ltb-true}
use Rattle.std.proofs.Math.Option.{Option, none, some, some-injective}
use Rattle.laws.specs.Choice.{when◌then◌else◌}
use Rattle.laws.specs.Members.{All, nil, also}
use Rattle.laws.proofs.Choice.{either, never}
use Rattle.units.specs.Time.{elapsed_since}
use Rattle.octets.specs.declared.numbers.Kind.{Kind}
use Rattle.octets.specs.declared.numbers.Kind.TheVariants.{Event, Diagnostic}
use Rattle.octets.specs.Addresses.{same, is_group}
use Rattle.octets.specs.Refusals.{group_destination, bad_requester_list}
use Rattle.octets.proofs.AddressLaws.{same_true, same_sym}
use Rattle.requests.specs.Requests.{read_request, Request}
use Rattle.events.specs.declared.Entry.{Entry}
use Rattle.model.specs.declared.Diagnostic.{Diagnostic as DiagnosticElement}
use Rattle.model.specs.Clocks.{Timer, elapsed_at, elapsed_clock, advanced}
use Rattle.model.specs.Model.{Capacities, Address, Listed, DiagnosticRequest, Requester, Station, frame, accepted, Result}
use Rattle.model.specs.Dialogs.{replace}
use Rattle.model.specs.Requesters.{bad_list, new_requester, find, put}
use Rattle.model.specs.Diagnostics.{is_late, on_time, unless_over, drop_late, diagnostics_of, take_diagnostics}
use Rattle.model.specs.Stations.{result, refused_for, tick_requester, without_late, timed, tick, Served, with_requester, serve_found, serve_listed, take_kind, take_request, request_call, frame_call, rename_with, rename, act, reading_of, step}
use Rattle.model.specs.Runs.{run, reply, sender}
use Rattle.model.specs.Independence.{quiet_for}
use Rattle.model.specs.Order.{FramesUnordered, ChangesEqualOne, MoveLeavesNoTrace}
use Rattle.model.proofs.Seen.{SameName, Keeps, take_keeps, reply_of}
use Rattle.model.proofs.Independence.{independent_of_others}

-- ---- a second late drop finds nothing

module _ (now : ℕ) where
  -- a drop leaves it as it is
  abbrev Settled : Option DiagnosticRequest → Type 0
  Settled o = drop_late elapsed_since now o ≡ o

  on_time_twice : (a : ℕ) (xs : List DiagnosticElement) → on_time elapsed_since now a (on_time elapsed_since now a xs) ≡ on_time elapsed_since now a xs
  unfolding on_time when◌then◌else◌
  on_time_twice a [] = refl
  on_time_twice a (x ∷ xs) = go (is_late elapsed_since now a x) refl (on_time_twice a xs)
    where
      rest : List DiagnosticElement
      rest = on_time elapsed_since now a xs

      go : (b : Bool) → is_late elapsed_since now a x ≡ b → on_time elapsed_since now a rest ≡ rest → on_time elapsed_since now a (when b then rest else x ∷ rest) ≡ (when b then rest else x ∷ rest)
      go true e h = h
      go false e h = rw (e, h)

  -- what was accepted just now is not late
  not_late : (x : DiagnosticElement) → is_late elapsed_since now now x ≡ false
  unfolding is_late
  not_late x = go (is_late elapsed_since now now x) refl
    where
      go : (b : Bool) → is_late elapsed_since now now x ≡ b → b ≡ false
      go true e = absurd (omega (arith, ltb-true))
      go false e = refl

  on_time-new : (xs : List DiagnosticElement) → on_time elapsed_since now now xs ≡ xs
  unfolding on_time when◌then◌else◌
  on_time-new [] = refl
  on_time-new (x ∷ xs) = rw (not_late x, on_time-new xs)

  over_settled : (d a : ℕ) (xs : List DiagnosticElement) → on_time elapsed_since now a xs ≡ xs → Settled (unless_over d a xs)
  unfolding unless_over drop_late
  over_settled d a [] h = refl
  over_settled d a (x ∷ xs) h = ap (unless_over d a) h

  drop_settled : (o : Option DiagnosticRequest) → Settled (drop_late elapsed_since now o)
  unfolding drop_late
  drop_settled none = refl
  drop_settled (some q) = over_settled q.dialog q.accepted _ (on_time_twice q.accepted q.elements)

  take_settled : (q : Request) (o : Option DiagnosticRequest) → Settled o → Settled (take_diagnostics now q o)
  unfolding take_diagnostics replace drop_late
  take_settled q o h = either Settled _ _ _ (λ _. refl) (λ _. go o h)
    where
      new : Settled (unless_over q.dialog now (diagnostics_of q))
      new = over_settled q.dialog now (diagnostics_of q) (on_time-new (diagnostics_of q))

      go : (o : Option DiagnosticRequest) → Settled o → Settled (replace (λ r. eqb q.dialog r.dialog) (unless_over q.dialog now (diagnostics_of q)) o)
      go none h = new
      go (some r) h = either Settled _ _ _ (λ _. h) (λ _. new)

  -- ---- the same of requesters

  abbrev Calm : Requester → Type 0
  Calm r = Settled r.diagnostics

  calm_dropped : (rs : List Requester) → All Calm rs → map (tick_requester elapsed_since now) rs ≡ rs
  unfolding tick_requester
  calm_dropped [] nil = refl
  calm_dropped (r ∷ rs) (also h hs) =
      ap₂ (λ (o : Option DiagnosticRequest) (l : List Requester). record { address = r.address; form = r.form; events = r.events; diagnostics = o } ∷ l) h (calm_dropped rs hs)

  dropped_calm : (rs : List Requester) → All Calm (map (tick_requester elapsed_since now) rs)
  unfolding tick_requester
  dropped_calm [] = nil
  dropped_calm (r ∷ rs) = also (drop_settled r.diagnostics) (dropped_calm rs)

  new_calm : (l : List Listed) → All Calm (map new_requester l)
  unfolding new_requester drop_late
  new_calm [] = nil
  new_calm (a ∷ l) = also refl (new_calm l)

  request_calm : (log : List Entry) (q : Request) (r : Requester) → Calm r → Calm (take_request now log q r).requester
  unfolding take_request take_kind
  request_calm log q r h = either (λ (x : Served). Calm x.requester) _ _ _ (λ _. h) (λ _. go q.kind)
    where
      go : (kind : Kind) → Calm (take_kind now log q r kind)
      go Event = h
      go Diagnostic = take_settled q r.diagnostics h

-- ---- a station that a call at its own reading finds as it is

record Still (t : ℕ) (g : Station) : Type 0 where
  timer : advanced elapsed_clock g.timer t ≡ g.timer
  calm : All (Calm g.timer.now) g.requesters

still-tick : (t : ℕ) (g : Station) → Still t g → tick elapsed_clock t g ≡ g
unfolding without_late timed
still-tick t g s =
    ap (λ (x : Timer). record { timer = x; identity = g.identity; log = g.log; requesters = map (tick_requester elapsed_since x.now) g.requesters }) s.timer
    ∙ ap (λ (rs : List Requester). record { timer = g.timer; identity = g.identity; log = g.log; requesters = rs }) (calm_dropped g.timer.now g.requesters s.calm)

elapsed_again : (last : Option ℕ) (now t : ℕ) → elapsed_at (some t) (elapsed_at last now t) t ≡ elapsed_at last now t
unfolding elapsed_at
elapsed_again none now t = omega arith
elapsed_again (some l) now t = omega arith

tick-still : (t : ℕ) (g : Station) → Still t (tick elapsed_clock t g)
unfolding without_late timed
tick-still t g = record {
  timer = ap (λ (n : ℕ). record { last = some t; now = n }) (elapsed_again g.timer.last g.timer.now t);
  calm = dropped_calm _ g.requesters;
}

-- ---- what a frame changes: the first requester of its source

update : Address → (Requester → Requester) → List Requester → List Requester
update a f [] = []
update a f (r ∷ rs) = when same a r.address then f r ∷ rs else r ∷ update a f rs

update_none : (a : Address) (rs : List Requester) → update a (λ r. r) rs ≡ rs
unfolding update
update_none a [] = refl
update_none a (r ∷ rs) = either (λ (l : List Requester). l ≡ r ∷ rs) _ _ _ (λ _. refl) (λ _. ap (◌∷◌ r) (update_none a rs))

update_all : {P : Requester → Type 0} (a : Address) (f : Requester → Requester) → ((r : Requester) → P r → P (f r)) → (rs : List Requester) → All P rs → All P (update a f rs)
unfolding update
update_all a f h [] nil = nil
update_all {P} a f h (r ∷ rs) (also p ps) = either (All P) _ _ _ (λ _. also (h r p) ps) (λ _. also p (update_all a f h rs ps))

-- of two sources
update_swap : (a b : Address) → same a b ≡ false → (f h : Requester → Requester) → Keeps f → Keeps h → (rs : List Requester) → update b h (update a f rs) ≡ update a f (update b h rs)
unfolding update when◌then◌else◌
update_swap a b n f h kf kh [] = refl
update_swap a b n f h kf kh (r ∷ rs) = go (same a r.address) refl (same b r.address) refl (update_swap a b n f h kf kh rs)
  where
    go : (s : Bool) → same a r.address ≡ s → (t : Bool) → same b r.address ≡ t → update b h (update a f rs) ≡ update a f (update b h rs)
        → update b h (when s then f r ∷ rs else r ∷ update a f rs) ≡ update a f (when t then h r ∷ rs else r ∷ update b h rs)
    go true p true q e = never (sym n ∙ ap (same a) (same_true b r.address q) ∙ p)
    go true p false q e = rw ((kf r).0, p, q)
    go false p true q e = rw ((kh r).0, p, q)
    go false p false q e = rw (p, q, e)

abbrev with_requesters : Station → List Requester → Station
with_requesters g rs = record { timer = g.timer; identity = g.identity; log = g.log; requesters = rs }

module _ (a : Address) (serve : Requester → Served) where
  -- the requesters where a found one is served
  served_in : List Requester → Option Requester → List Requester
  served_in rs none = rs
  served_in rs (some r) = put a (serve r).requester rs

  served_update : (rs : List Requester) (o : Option Requester) → find a rs ≡ o → served_in rs o ≡ update a (λ r. (serve r).requester) rs
  unfolding served_in update find put when◌then◌else◌
  served_update [] none e = refl
  served_update [] (some r) e = never cc
  served_update (q ∷ rs) o e = go (same a q.address) refl o e (served_update rs)
    where
      go : (b : Bool) → same a q.address ≡ b → (o : Option Requester) → (when b then some q else find a rs) ≡ o → ((o : Option Requester) → find a rs ≡ o → served_in rs o ≡ update a (λ r. (serve r).requester) rs)
          → served_in (q ∷ rs) o ≡ (when b then (serve q).requester ∷ rs else q ∷ update a (λ r. (serve r).requester) rs)
      go true p none e h = never cc
      go true p (some r) e h = rw (p, some-injective q r e)
      go false p none e h = ap (◌∷◌ q) (h none e)
      go false p (some r) e h = rw p (ap (◌∷◌ q) (h (some r) e))

  found-station : (g : Station) (o : Option Requester) → (serve_found a serve [] g o).station ≡ with_requesters g (served_in g.requesters o)
  unfolding serve_found with_requester served_in
  found-station g none = refl
  found-station g (some r) = refl

module _ (most : Capacities) where
  -- what a frame to d with the octets o makes of its requester
  taken : Station → Address → List ℕ → Requester → Requester
  taken u d o r = when is_group d then r else (take_request u.timer.now u.log (read_request most.elements o) r).requester

  frame-station : (d a : Address) (o : List ℕ) (u : Station) → (frame_call most d a o u).station ≡ with_requesters u (update a (taken u d o) u.requesters)
  unfolding frame_call request_call serve_listed taken when◌then◌else◌
  frame-station d a o u = go (is_group d)
    where
      serve : Requester → Served
      serve = take_request u.timer.now u.log (read_request most.elements o)

      go : (b : Bool) → (when b then result u (refused_for group_destination) [] else serve_found a serve [] u (find a u.requesters)).station
          ≡ with_requesters u (update a (λ r. when b then r else (serve r).requester) u.requesters)
      go true = ap (with_requesters u) (sym (update_none a u.requesters))
      go false = found-station a serve u (find a u.requesters) ∙ ap (with_requesters u) (served_update a serve u.requesters (find a u.requesters) refl)

  taken_keeps : (u : Station) (d : Address) (o : List ℕ) → Keeps (taken u d o)
  unfolding taken
  taken_keeps u d o r = either (λ (x : Requester). SameName x r) _ _ _ (λ _. (refl, refl)) (λ _. take_keeps u.timer.now u.log _ r)

  frame-still : (t : ℕ) (d a : Address) (o : List ℕ) (u : Station) → Still t u → Still t (frame_call most d a o u).station
  unfolding taken
  frame-still t d a o u s =
      rw (frame-station d a o u)
      (record {
        timer = s.timer;
        calm = update_all a (taken u d o) (λ r p. either (Calm u.timer.now) _ _ _ (λ _. p) (λ _. request_calm u.timer.now u.log _ r p)) u.requesters s.calm;
      })

  -- two frames at one reading
  two_frames : (g : Station) (t : ℕ) (d e a b : Address) (o p : List ℕ) → let u = tick elapsed_clock t g in
      run elapsed_clock most g (frame t d a o ∷ frame t e b p ∷ []) ≡ with_requesters u (update b (taken u e p) (update a (taken u d o) u.requesters))
  unfolding run step act reading_of taken
  two_frames g t d e a b o p =
      let u = tick elapsed_clock t g in
      ap (λ (x : Station). (frame_call most e b p x).station) (still-tick t (frame_call most d a o u).station (frame-still t d a o u (tick-still t g)) ∙ frame-station d a o u)
      ∙ frame-station e b p (with_requesters u (update a (taken u d o) u.requesters))

  -- behind another's frame a frame is answered as behind a clock reading, which changes nothing at its own reading
  frame-behind : (g : Station) (t : ℕ) (d e a b : Address) (o p : List ℕ) → same a b ≡ false
      → reply elapsed_clock most (step elapsed_clock most g (frame t d a o)).station (frame t e b p) ≡ reply elapsed_clock most g (frame t e b p)
  unfolding run step act reading_of reply sender quiet_for when◌then◌else◌
  frame-behind g t d e a b o p n =
      rw n at (independent_of_others elapsed_clock most g (frame t d a o ∷ []) (frame t e b p) b refl)
      ∙ ap (λ (u : Station). reply_of (frame_call most e b p u)) (still-tick t (tick elapsed_clock t g) (tick-still t g))

pub frames_unordered : FramesUnordered
frames_unordered most g t d e a b o p n = record {
  same-station =
      let u = tick elapsed_clock t g in
      two_frames most g t d e a b o p
      ∙ ap (with_requesters u) (update_swap a b n (taken most u d o) (taken most u e p) (taken_keeps most u d o) (taken_keeps most u e p) u.requesters)
      ∙ sym (two_frames most g t e d b a p o);
  same_first = frame-behind most g t e d b a p o (same_sym b a ∙ n);
  same_second = frame-behind most g t d e a b o p n;
}

-- ---- moves and network changes

module _ (most : Capacities) where
  rename-still : (t : ℕ) (log : List Entry) (l : List Listed) (u : Station) → Still t u → Still t (rename most log l u).station
  unfolding rename rename_with
  rename-still t log l u s = either (λ (x : Result). Still t x.station) _ _ _ (λ _. s) (λ _. go u.identity)
    where
      go : (o : Option (List ℕ)) → Still t (rename_with log l u o).station
      go none = s
      go (some i) = record { timer = s.timer; calm = new_calm u.timer.now l }

  -- a network change behind a call that names other requesters, with whatever log
  record Again (x y : Result) : Type 0 where
    same-reply : reply_of x ≡ reply_of y
    same-station : y.answer ≡ accepted → x.station ≡ y.station

  same_again : (x y : Result) → x ≡ y → Again x y
  same_again x y e = record { same-reply = ap reply_of e; same-station = λ _. ap (λ (z : Result). z.station) e }

  rename_again : (log : List Entry) (l m : List Listed) (u : Station) → Again (rename most [] m (rename most log l u).station) (rename most [] m u)
  unfolding rename rename_with when◌then◌else◌
  rename_again log l m u = go (bad_list most.requesters m) (bad_list most.requesters l) u.identity refl
    where
      go : (b x : Bool) (o : Option (List ℕ)) → u.identity ≡ o
          → let h = (when x then result u (refused_for bad_requester_list) [] else rename_with log l u o).station in
          Again (when b then result h (refused_for bad_requester_list) [] else rename_with [] m h h.identity) (when b then result u (refused_for bad_requester_list) [] else rename_with [] m u o)
      go true x o e = record { same-reply = refl; same-station = λ p. never cc }
      go false true o e = same_again _ _ (ap (rename_with [] m u) e)
      go false false none e = same_again _ _ (ap (rename_with [] m u) e)
      go false false (some i) e = same_again _ _ refl

  -- the same change twice; a refused one leaves the station as it is
  rename_twice : (l : List Listed) (u : Station) → rename most [] l (rename most [] l u).station ≡ rename most [] l u
  unfolding rename rename_with when◌then◌else◌
  rename_twice l u = go (bad_list most.requesters l) u.identity refl
    where
      go : (b : Bool) (o : Option (List ℕ)) → u.identity ≡ o
          → let x = when b then result u (refused_for bad_requester_list) [] else rename_with [] l u o in
          (when b then result x.station (refused_for bad_requester_list) [] else rename_with [] l x.station x.station.identity) ≡ x
      go true o e = refl
      go false none e = ap (rename_with [] l u) e
      go false (some i) e = refl

pub changes-equal-one : ChangesEqualOne
unfolding step act reading_of
changes-equal-one most g t l =
    let u = tick elapsed_clock t g in
    ap (rename most [] l) (still-tick t (rename most [] l u).station (rename-still most t [] l u (tick-still t g))) ∙ rename_twice most l u

pub move_leaves_no_trace : MoveLeavesNoTrace
unfolding run step act reading_of reply
move_leaves_no_trace most g t l m =
    let u = tick elapsed_clock t g in
    let e = still-tick t (rename most u.log l u).station (rename-still most t u.log l u (tick-still t g)) in
    let x = rename_again most u.log l m u in
    record {
      same-reply = ap (λ (h : Station). reply_of (rename most [] m h)) e ∙ x.same-reply;
      same-station = λ p. ap (λ (h : Station). (rename most [] m h).station) e ∙ x.same-station p;
    }
