-- Demand 3, by induction over the list: the station is in step with the newly set up one after the calls since the origin, its times later
-- by a number of milliseconds; and that one gives a sender what it gives where the other senders' calls are replaced.
-- Assumes nothing.
use Rattle.std.proofs.Common.{ℕ, ◌+◌, ◌<◌, min, ◌≡◌, refl, sym, ◌∙◌, ap, ap₂, Bool, true, false, not, List, [], ◌∷◌, ◌++◌, map, arith}
use Rattle.std.proofs.Math.Path.{fun_ext}
use Rattle.std.proofs.Math.Option.{Option, none, some, some-injective}
use Rattle.std.proofs.lemmas.Bool.{not-false}
use Rattle.laws.specs.Choice.{when◌then◌else◌}
use Rattle.laws.proofs.Choice.{either, never}
use Rattle.units.specs.Time.{age, elapsed_top, elapsed_since}
use Rattle.model.specs.Clocks.{Timer, unset, Clock, elapsed_at, elapsed_clock}
use Rattle.model.specs.Model.{Capacities, Address, Listed, Station, Call, clock, logging, frame, report, roam, change, accepted, Result}
use Rattle.identities.specs.Identity.{good_identity}
use Rattle.model.specs.Requesters.{bad_list}
use Rattle.octets.specs.Refusals.{bad_requester_list, bad_identity}
use Rattle.model.specs.Stations.{result, refused_for, new_station, nobody, setup, timed, without_late, tick, rename_with, rename, act, reading_of, step}
use Rattle.model.specs.Runs.{run, Always, sender, Reply, reply, to_sender}
use Rattle.model.specs.Independence.{quiet, Origin, from, longer, is_accepted, origin_after, fresh_reply, answers, fresh_answers, BelowTop, Independent, IndependentShortRun, origin, IndependentCall, IndependentOfOthers}
use Rattle.model.proofs.Seen.{seen, step_seen, step_reply, seen_step, quiet_step, seen-reply}
use Rattle.model.proofs.AgesLaws.{all_ages}
use Rattle.model.proofs.CallLaws.{step-identity, blank, setup_blank}
use Rattle.model.proofs.Paired.{Pairing, Paired, paired_first, paired_step, paired_reply}
use Rattle.model.proofs.Premise.{below_top}

-- ---- the other senders' calls replaced

module _ (k : Clock) (most : Capacities) where
  seen_run : (s : Address) (g h : Station) → seen s g ≡ seen s h → (cs : List Call) → seen s (run k most g cs) ≡ seen s (run k most h (map (quiet s) cs))
  unfolding run
  seen_run s g h e [] = e
  seen_run s g h e (c ∷ cs) =
      seen_run s (step k most g c).station (step k most h (quiet s c)).station
      (seen_step k most s c g ∙ ap (step_seen k most s c) e ∙ sym (quiet_step k most s c (seen s h)) ∙ sym (seen_step k most s (quiet s c) h)) cs

  reply-quiet : (g : Station) (cs : List Call) (c : Call)
      → to_sender (sender c) (λ s. reply k most (run k most g cs) c) ≡ to_sender (sender c) (λ s. reply k most (run k most g (map (quiet s) cs)) c)
  reply-quiet g cs c =
      seen-reply k most c (λ s. run k most g cs)
      ∙ ap (to_sender (sender c)) (fun_ext (λ s. ap (step_reply k most c) (seen_run s g g refl cs)))
      ∙ sym (seen-reply k most c (λ s. run k most g (map (quiet s) cs)))

-- ---- later by a number of milliseconds

later-time : (n : ℕ) (t : Timer) (l r : ℕ) → t.last ≡ some l → elapsed_at t.last (t.now + n) r < elapsed_top → elapsed_at t.last (t.now + n) r ≡ elapsed_at t.last t.now r + n
unfolding elapsed_at
later-time n t l r e h =
    let m : min elapsed_top (t.now + n + age r l) < elapsed_top = rw e at h in
    rw e (omega arith)

first-time : (n r : ℕ) → n ≡ elapsed_at none 0 r + n
unfolding elapsed_at
first-time n r = omega arith

shifted : Pairing elapsed_clock elapsed_clock
shifted = record {
  Index = ℕ;
  mapped = λ n t. t + n;
  Good = λ r n m. n < elapsed_top;
  Linked = λ i l n. Unit {0};
  first = λ t r h. (elapsed_at t.last t.now r, first-time (elapsed_at t.last t.now r) r, tt);
  next = λ n t l r e h below. (later-time n t l r e below, tt);
}

-- every age is the same then
same-age : (n t a : ℕ) → elapsed_since (t + n) (a + n) ≡ elapsed_since t a
same-age n t a = omega arith

module _ (most : Capacities) where
  -- ---- an accepted network change leaves what setup makes, but for the timer

  -- the identity of a station that was set up with i: i, and good, or none
  unfoldable Known : List ℕ → Option (List ℕ) → Type 0
  Known i none = Unit {0}
  Known i (some j) = (j ≡ i) × (good_identity i ≡ true)

  setup_known : (i : List ℕ) (l : List Listed) → Known i (setup most i l).station.identity
  unfolding setup Known
  setup_known i l =
      let P : Result → Type 0 = λ (x : Result). Known i x.station.identity in
      either P _ _ _ (λ _. tt) (λ _. either P _ _ _ (λ _. tt) (λ h. (refl, not-false _ h)))

  module _ (i : List ℕ) (l : List Listed) (g : Station) where
    -- where the first is accepted, both are blank
    abbrev Renewed : Result → Result → Type 0
    Renewed x y = is_accepted x.answer ≡ true → (x.station ≡ blank g.timer (some i) l) × (y.station ≡ blank unset (some i) l)

    renewed_if : (b : Bool) (x x' y y' : Result) → Renewed x x' → Renewed y y' → Renewed (when b then x else y) (when b then x' else y')
    unfolding when◌then◌else◌
    renewed_if true x x' y y' p q = p
    renewed_if false x x' y y' p q = q

    abbrev named : Result
    named = when not (good_identity i) then result nobody (refused_for bad_identity) [] else result (new_station unset i [] l) accepted []

    renamed_new : (o : Option (List ℕ)) → Known i o → Renewed (rename_with [] l g o) named
    unfolding rename_with is_accepted Known when◌then◌else◌
    renamed_new none k e = never cc
    renamed_new (some j) k e = (rw k.0, rw k.1)

    rename-new : Known i g.identity → Renewed (rename most [] l g) (setup most i l)
    unfolding rename setup is_accepted
    rename-new k =
        renewed_if (bad_list most.requesters l) (result g (refused_for bad_requester_list) []) (result nobody (refused_for bad_requester_list) []) (rename_with [] l g g.identity) named
        (λ e. never cc)
        (renamed_new g.identity k)

  -- ---- runs

  run_end : (g : Station) (cs : List Call) (c : Call) → run elapsed_clock most g (cs ++ (c ∷ [])) ≡ (step elapsed_clock most (run elapsed_clock most g cs) c).station
  unfolding run
  run_end g [] c = refl
  run_end g (x ∷ cs) c = run_end (step elapsed_clock most g x).station cs c

  module _ (i : List ℕ) where
    abbrev fresh : Origin → Station
    fresh o = run elapsed_clock most (setup most i o.list).station o.later

    -- g is in step with the newly set up station after the calls since the origin
    InStep : Origin → Station → Type 0
    InStep o g = Paired shifted g (fresh o)

    step_start : (l : List Listed) → InStep (from l) (setup most i l).station
    unfolding InStep run
    step_start l = let b = setup_blank most i l in rw b.2 (paired_first shifted unset b.0 b.1)

    module _ (o : Origin) (g : Station) (paired : InStep o g) where
      step-longer : (c : Call) → BelowTop (timed elapsed_clock (reading_of c) g) c → InStep (longer o c) (step elapsed_clock most g c).station
      unfolding InStep shifted timed
      step-longer c h =
          rw (run_end (setup most i o.list).station o.later c)
          (paired_step shifted most g (fresh o) c paired h (λ n. all_ages _ (same-age n) (timed elapsed_clock (reading_of c) (fresh o)) c))

      reply_fresh : (c : Call) → BelowTop (timed elapsed_clock (reading_of c) g) c → to_sender (sender c) (λ s. reply elapsed_clock most g c) ≡ to_sender (sender c) (fresh_reply most i o c)
      unfolding InStep fresh_reply shifted timed
      reply_fresh c h =
          ap (λ (r : Reply). to_sender (sender c) (λ s. r))
          (paired_reply shifted most g (fresh o) c paired h (λ n. all_ages _ (same-age n) (timed elapsed_clock (reading_of c) (fresh o)) c))
          ∙ reply-quiet elapsed_clock most (setup most i o.list).station o.later c

      module _ (known : Known i g.identity) where
        step-change : (t : ℕ) (l : List Listed) → is_accepted (step elapsed_clock most g (change t l)).answer ≡ true → InStep (from l) (step elapsed_clock most g (change t l)).station
        unfolding InStep step act reading_of run without_late timed
        step-change t l e = let n = rename-new i l (tick elapsed_clock t g) known e in rw (n.0, n.1) (paired_first shifted _ (some i) l)

        step_after : (c : Call) → BelowTop (timed elapsed_clock (reading_of c) g) c → InStep (origin_after o c (step elapsed_clock most g c).answer) (step elapsed_clock most g c).station
        unfolding origin_after
        step_after (clock t) h = step-longer (clock t) h
        step_after (logging t e) h = step-longer (logging t e) h
        step_after (frame t d a b) h = step-longer (frame t d a b) h
        step_after (report t a k b) h = step-longer (report t a k b) h
        step_after (roam t l) h = step-longer (roam t l) h
        step_after (change t l) h =
            either (λ (x : Origin). InStep x (step elapsed_clock most g (change t l)).station) _ _ _ (step-change t l) (λ _. step-longer (change t l) h)

    known_step : (g : Station) (c : Call) → Known i g.identity → Known i (step elapsed_clock most g c).station.identity
    known_step g c k = rw (step-identity elapsed_clock most g c) k

    answers_fresh : (o : Origin) (g : Station) → Known i g.identity → InStep o g → (cs : List Call) → Always BelowTop elapsed_clock most g cs → answers most g cs ≡ fresh_answers most i o g cs
    unfolding answers fresh_answers Always
    answers_fresh o g k s [] h = refl
    answers_fresh o g k s (c ∷ cs) h =
        ap₂ ◌∷◌ (reply_fresh o g s c h.0)
        (answers_fresh (origin_after o c (step elapsed_clock most g c).answer) (step elapsed_clock most g c).station (known_step g c k) (step_after o g s k c h.0) cs h.1)

    call_fresh : (o : Origin) (g : Station) → Known i g.identity → InStep o g → (cs : List Call) (c : Call) → Always BelowTop elapsed_clock most g (cs ++ (c ∷ []))
        → to_sender (sender c) (λ s. reply elapsed_clock most (run elapsed_clock most g cs) c) ≡ to_sender (sender c) (fresh_reply most i (origin most o g cs) c)
    unfolding run origin Always
    call_fresh o g k s [] c h = reply_fresh o g s c h.0
    call_fresh o g k s (x ∷ cs) c h =
        call_fresh (origin_after o x (step elapsed_clock most g x).answer) (step elapsed_clock most g x).station (known_step g x k) (step_after o g s k x h.0) cs c h.1

-- Demand 3.
pub independent : Independent
independent most i l cs h = answers_fresh most i (from l) (setup most i l).station (setup_known most i l) (step_start most i l) cs h

-- The same, of a list that is short enough.
pub independent_short-run : IndependentShortRun
independent_short-run most i l cs h = independent most i l cs (below_top most i l cs h)

-- The same, said of one call and those before it.
pub independent_call : IndependentCall
unfolding to_sender
independent_call most i l earlier c s e h =
    some-injective _ _ (rw e at (call_fresh most i (from l) (setup most i l).station (setup_known most i l) (step_start most i l) earlier c h))

-- The half about replaced calls.
pub independent_of_others : IndependentOfOthers
unfolding to_sender
independent_of_others k most g earlier c s e = some-injective _ _ (rw e at (reply-quiet k most g earlier c))
