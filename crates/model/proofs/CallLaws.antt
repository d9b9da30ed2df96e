-- What every call keeps of a station, and what setup leaves.
-- Assumes nothing.
use Rattle.std.proofs.Common.{ℕ, ◌≡◌, refl, sym, ap, Bool, true, false, not, List, [], map, arith, eqb-true}
use Rattle.std.proofs.Math.Option.{Option, none, some}
use Rattle.std.proofs.lemmas.Bool.{not-false}
use Rattle.laws.specs.Choice.{when◌then◌else◌}
use Rattle.laws.proofs.Choice.{either}
use Rattle.octets.specs.Times.{good_time}
use Rattle.octets.specs.Refusals.{bad_time, bad_report_body}
use Rattle.events.specs.declared.Entry.{Entry}
use Rattle.events.specs.Log.{pushed}
use Rattle.events.specs.Loggings.{LoggedEvent, event_times, good_rsn_element, entry_of}
use Rattle.model.specs.Clocks.{Timer, unset, Clock, advanced}
use Rattle.model.specs.Model.{Capacities, Address, Listed, Requester, Station, Call, clock, logging, frame, report, roam, change, Result}
use Rattle.model.specs.Requesters.{new_requester, find}
use Rattle.model.specs.Stations.{setup, timed, without_late, tick, log_entry, log_cause, log_call, Served, with_requester, serve_found, serve_listed, request_call, frame_call, report_call, rename_with, rename, act, reading_of, step}

-- ---- no call changes the identity, nor the timer but by its reading

abbrev Kept : Station → Result → Type 0
Kept g x = (x.station.timer ≡ g.timer) × (x.station.identity ≡ g.identity)

found-kept : (a : Address) (serve : Requester → Served) (b : List ℕ) (g : Station) (o : Option Requester) → Kept g (serve_found a serve b g o)
unfolding serve_found with_requester
found-kept a serve b g none = (refl, refl)
found-kept a serve b g (some r) = (refl, refl)

module _ (most : Capacities) where
  rename-kept : (log : List Entry) (l : List Listed) (g : Station) → Kept g (rename most log l g)
  unfolding rename rename_with
  rename-kept log l g = either (Kept g) _ _ _ (λ _. (refl, refl)) (λ _. go g.identity refl)
    where
      go : (o : Option (List ℕ)) → g.identity ≡ o → Kept g (rename_with log l g o)
      go none e = (refl, refl)
      go (some i) e = (refl, sym e)

  act-kept : (since : ℕ → ℕ → ℕ) (c : Call) (g : Station) → Kept g (act since most c g)
  unfolding act log_call log_entry request_call frame_call report_call serve_listed
  act-kept since (clock t) g = (refl, refl)
  act-kept since (logging t e) g = either (Kept g) _ _ _ (λ _. (refl, refl)) (λ _. (refl, refl))
  act-kept since (frame t d a o) g = either (Kept g) _ _ _ (λ _. (refl, refl)) (λ _. found-kept a _ _ g (find a g.requesters))
  act-kept since (report t a kind b) g = found-kept a _ _ g (find a g.requesters)
  act-kept since (roam t l) g = rename-kept g.log l g
  act-kept since (change t l) g = rename-kept [] l g

module _ (k : Clock) (most : Capacities) (g : Station) (c : Call) where
  pub step-timer : (step k most g c).station.timer ≡ advanced k g.timer (reading_of c)
  unfolding step without_late timed
  step-timer = (act-kept most k.since c (tick k (reading_of c) g)).0

  pub step-identity : (step k most g c).station.identity ≡ g.identity
  unfolding step without_late timed
  step-identity = (act-kept most k.since c (tick k (reading_of c) g)).1

-- ---- what a call makes of the log

-- an event that logging does not refuse
pub log-good : (x : LoggedEvent) → log_cause x ≡ 0 → (good_time (event_times x).time ≡ true) × (good_rsn_element x ≡ true)
unfolding log_cause when◌then◌else◌
log-good x = go (good_time (event_times x).time) (good_rsn_element x)
  where
    go : (a b : Bool) → (when not a then bad_time else when not b then bad_report_body else 0) ≡ 0 → (a ≡ true) × (b ≡ true)
    go true true e = (refl, refl)
    go true false e = absurd (omega arith)
    go false b e = absurd (omega arith)

module _ (P : List Entry → Type 0) (empty : P []) where
  found-log : (a : Address) (serve : Requester → Served) (b : List ℕ) (g : Station) (o : Option Requester) → P g.log → P (serve_found a serve b g o).station.log
  unfolding serve_found with_requester
  found-log a serve b g none p = p
  found-log a serve b g (some r) p = p

  rename-log : (most : Capacities) (log : List Entry) (l : List Listed) (g : Station) → P log → P g.log → P (rename most log l g).station.log
  unfolding rename rename_with
  rename-log most log l g q p = either (λ (x : Result). P x.station.log) _ _ _ (λ _. p) (λ _. go g.identity)
    where
      go : (o : Option (List ℕ)) → P (rename_with log l g o).station.log
      go none = p
      go (some i) = q

  -- what holds of an empty log and of one with the call's entry more, if it has one, holds of the log after the call
  pub act-log : (since : ℕ → ℕ → ℕ) (most : Capacities) (c : Call) (g : Station)
      → ((t : ℕ) (x : LoggedEvent) → c ≡ logging t x → log_cause x ≡ 0 → P (pushed most.events g.log (entry_of g.timer.now t x)))
      → P g.log → P (act since most c g).station.log
  unfolding act log_call log_entry request_call frame_call report_call serve_listed
  act-log since most (clock t) g more p = p
  act-log since most (logging t x) g more p = either (λ (y : Result). P y.station.log) _ _ _ (λ _. p) (λ h. more t x refl (eqb-true _ 0 (not-false _ h)))
  act-log since most (frame t d a o) g more p = either (λ (x : Result). P x.station.log) _ _ _ (λ _. p) (λ _. found-log a _ [] g (find a g.requesters) p)
  act-log since most (report t a kind b) g more p = found-log a _ b g (find a g.requesters) p
  act-log since most (roam t l) g more p = rename-log most g.log l g p p
  act-log since most (change t l) g more p = rename-log most [] l g empty p

-- ---- what setup leaves

-- a station with no event and no request
abbrev pub blank : Timer → Option (List ℕ) → List Listed → Station
blank t i l = record { timer = t; identity = i; log = []; requesters = map new_requester l }

pub setup_blank : (most : Capacities) (i : List ℕ) (l : List Listed) → (j : Option (List ℕ)) × (m : List Listed) × ((setup most i l).station ≡ blank unset j m)
unfolding setup
setup_blank most i l =
    let P : Result → Type 0 = λ (x : Result). (j : Option (List ℕ)) × (m : List Listed) × (x.station ≡ blank unset j m) in
    either P _ _ _ (λ _. (none, [], refl)) (λ _. either P _ _ _ (λ _. (none, [], refl)) (λ _. (some i, l, refl)))

pub setup-unset : (most : Capacities) (i : List ℕ) (l : List Listed) → (setup most i l).station.timer ≡ unset
setup-unset most i l = ap (λ (g : Station). g.timer) (setup_blank most i l).2
