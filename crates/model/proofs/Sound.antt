-- Every run from setup on is sound.
-- Assumes nothing.
use Rattle.std.proofs.Common.{ℕ, ◌≡◌, refl, sym, ap, ◌∙◌, Bool, true, false, not, ◌||◌, List, [], ◌∷◌, ◌++◌, map, length, drop, ltb, eqb, eqb-true}
use Rattle.std.proofs.Math.Option.{Option, none, some, some-injective}
use Rattle.std.proofs.lemmas.List.{map-append}
use Rattle.std.proofs.lemmas.Bool.{not-false}
use Rattle.laws.specs.Members.{Among, first, later, All, nil, also, any}
use Rattle.laws.specs.Choice.{when◌then◌else◌}
use Rattle.laws.proofs.Members.{all_end}
use Rattle.laws.proofs.Choice.{either, never}
use Rattle.events.specs.declared.Entry.{Entry}
use Rattle.octets.specs.Addresses.{same, is_group}
use Rattle.events.specs.Times.{is_form}
use Rattle.events.specs.Log.{pushed}
use Rattle.events.specs.Loggings.{LoggedEvent, Logging, entry_for}
use Rattle.model.specs.Clocks.{Timer, Clock}
use Rattle.model.specs.Model.{Capacities, Address, Listed, listed_address, listed_form, Requester, Station, Call, clock, logging, frame, report, roam, change, Result}
use Rattle.model.specs.Requesters.{repeated, bad_listed, bad_list, new_requester, find, put}
use Rattle.model.specs.Stations.{nobody, new_station, setup, timed, tick_requester, without_late, tick, log_requester, log_entry, log_cause, log_call, Served, with_requester, serve_found, serve_listed, request_call, frame_call, report_call, rename_with, rename, act, reading_of, step}
use Rattle.model.specs.Runs.{run}
use Rattle.model.specs.Sound.{logging_call, LoggedBy, Identified, identified, unidentified, Follows, Sound, AlwaysSound}
use Rattle.model.proofs.Seen.{Keeps, tick_keeps, log_keeps, ServeKeeps, take_keeps, give_keeps}

-- ---- the log

module _ (cs : List Call) where
  logged_empty : LoggedBy cs []
  logged_empty = record { list = []; is = refl; called = nil; good = nil }

  logged_less : (log : List Entry) → LoggedBy cs log → LoggedBy cs (drop 1 log)
  logged_less log j = go j.list j.is j.called j.good
    where
      go : (xs : List Logging) → log ≡ map entry_for xs → All (λ x. Among (logging_call x) cs) xs → All (λ x. log_cause x.event ≡ 0) xs → LoggedBy cs (drop 1 log)
      go [] e f t = rw e logged_empty
      go (y ∷ xs) e (also f fs) (also t ts) = record { list = xs; is = ap (drop 1) e; called = fs; good = ts }

  logged_more : (log : List Entry) (x : Logging) → LoggedBy cs log → Among (logging_call x) cs → log_cause x.event ≡ 0 → LoggedBy cs (log ++ (entry_for x ∷ []))
  logged_more log x j m t = record {
    list = j.list ++ (x ∷ []);
    is = ap (λ (l : List Entry). l ++ (entry_for x ∷ [])) j.is ∙ sym (map-append entry_for j.list (x ∷ []));
    called = all_end j.list j.called m;
    good = all_end j.list j.good t;
  }

  logged-pushed : (n : ℕ) (log : List Entry) (x : Logging) → LoggedBy cs log → Among (logging_call x) cs → log_cause x.event ≡ 0 → LoggedBy cs (pushed n log (entry_for x))
  unfolding pushed
  logged-pushed n log x j = logged_more _ x (either (LoggedBy cs) (ltb (length log) n) log (drop 1 log) (λ _. j) (λ _. logged_less log j))

-- ---- the identity

module _ (i : List ℕ) where
  identified-kept : (g h : Station) → h.identity ≡ g.identity → (g.requesters ≡ [] → h.requesters ≡ []) → Identified i g → Identified i h
  identified-kept g h e f (identified p q) = identified (e ∙ p) q
  identified-kept g h e f (unidentified p q) = unidentified (e ∙ p) (f q)

  identified-named : (g : Station) (t : Timer) (j : List ℕ) (log : List Entry) (l : List Listed) → g.identity ≡ some j → Identified i g → Identified i (new_station t j log l)
  identified-named g t j log l e (identified p q) = identified (sym e ∙ p) q
  identified-named g t j log l e (unidentified p q) = never cc

-- ---- the forms

module _ (f : Requester → Requester) (keeps : Keeps f) where
  forms-kept : (rs : List Requester) → All Follows rs → All Follows (map f rs)
  forms-kept [] nil = nil
  forms-kept (r ∷ rs) (also p ps) = also (ap is_form (keeps r).1 ∙ p) (forms-kept rs ps)

pub forms-found : (a : Address) (rs : List Requester) (r : Requester) → All Follows rs → find a rs ≡ some r → Follows r
unfolding find when◌then◌else◌
forms-found a [] r nil e = never cc
forms-found a (q ∷ rs) r (also p ps) e = go (same a q.address) e (forms-found a rs r ps)
  where
    go : (b : Bool) → (when b then some q else find a rs) ≡ some r → (find a rs ≡ some r → Follows r) → Follows r
    go true e f = rw (← some-injective q r e) p
    go false e f = f e

forms-put : (a : Address) (x : Requester) → Follows x → (rs : List Requester) → All Follows rs → All Follows (put a x rs)
unfolding put
forms-put a x h [] nil = nil
forms-put a x h (r ∷ rs) (also p ps) = either (All Follows) (same a r.address) (x ∷ rs) (r ∷ put a x rs) (λ _. also h ps) (λ _. also p (forms-put a x h rs ps))

-- a list with no bad entry names forms
forms-named : (l : List Listed) → any bad_listed l ≡ false → All Follows (map new_requester l)
unfolding any new_requester bad_listed when◌then◌else◌
forms-named [] e = nil
forms-named (x ∷ l) e = go (is_group (listed_address x)) (is_form (listed_form x)) refl (any bad_listed l) refl e (forms-named l)
  where
    go : (a b : Bool) → is_form (listed_form x) ≡ b → (c : Bool) → any bad_listed l ≡ c → ((when a then true else not b) || c) ≡ false → (any bad_listed l ≡ false → All Follows (map new_requester l)) → All Follows (map new_requester (x ∷ l))
    go true b p c q h f = never (sym h)
    go false true p true q h f = never (sym h)
    go false true p false q h f = also p (f q)
    go false false p c q h f = never (sym h)

-- a list that is taken has none
good-list : (most : ℕ) (l : List Listed) → bad_list most l ≡ false → any bad_listed l ≡ false
unfolding bad_list when◌then◌else◌
good-list most l = go (eqb (length l) 0) (ltb most (length l)) (repeated l)
  where
    go : (a b c : Bool) → (when a then true else when b then true else when c then true else any bad_listed l) ≡ false → any bad_listed l ≡ false
    go true b c h = never (sym h)
    go false true c h = never (sym h)
    go false false true h = never (sym h)
    go false false false h = h

-- ---- calls

module _ (most : Capacities) (i : List ℕ) (cs : List Call) where
  abbrev After : Result → Type 0
  After x = Sound i cs x.station

  module _ (g : Station) (s : Sound i cs g) where
    sound_found : (a : Address) (serve : Requester → Served) → ServeKeeps serve → (b : List ℕ) (o : Option Requester) → find a g.requesters ≡ o → After (serve_found a serve b g o)
    unfolding serve_found with_requester put
    sound_found a serve keeps b none e = s
    sound_found a serve keeps b (some r) found =
        record {
          log = s.log;
          identity = identified-kept i g _ refl (λ e. ap (put a (serve r).requester) e) s.identity;
          forms = forms-put a (serve r).requester (rw (keeps r).1 (forms-found a g.requesters r s.forms found)) g.requesters s.forms;
        }

    sound_renamed : (log : List Entry) (l : List Listed) → any bad_listed l ≡ false → LoggedBy cs log → (o : Option (List ℕ)) → g.identity ≡ o → After (rename_with log l g o)
    unfolding rename_with
    sound_renamed log l h j none e = s
    sound_renamed log l h j (some k) e = record { log = j; identity = identified-named i g g.timer k log l e s.identity; forms = forms-named l h }

    sound_rename : (log : List Entry) (l : List Listed) → LoggedBy cs log → After (rename most log l g)
    unfolding rename
    sound_rename log l j = either After _ _ _ (λ _. s) (λ h. sound_renamed log l (good-list most.requesters l h) j g.identity refl)

    sound_logging : (t : ℕ) (e : LoggedEvent) → Among (logging t e) cs → After (log_call most t e g)
    unfolding log_call log_entry
    sound_logging t e m =
        either After _ _ _ (λ _. s)
        (λ h. record {
          log = logged-pushed cs most.events g.log (record { stamp = g.timer.now; reading = t; event = e }) s.log m (eqb-true _ 0 (not-false _ h));
          identity = identified-kept i g _ refl (λ p. ap (map (log_requester most g.log)) p) s.identity;
          forms = forms-kept _ (log_keeps most g.log) g.requesters s.forms;
        })

    sound_act : (since : ℕ → ℕ → ℕ) (c : Call) → Among c cs → After (act since most c g)
    unfolding act request_call frame_call report_call serve_listed
    sound_act since (clock t) m = s
    sound_act since (logging t e) m = sound_logging t e m
    sound_act since (frame t d a o) m = either After _ _ _ (λ _. s) (λ _. sound_found a _ (take_keeps g.timer.now g.log _) [] (find a g.requesters) refl)
    sound_act since (report t a k b) m = sound_found a _ (give_keeps since g.identity g.log k b) b (find a g.requesters) refl
    sound_act since (roam t l) m = sound_rename g.log l s.log
    sound_act since (change t l) m = sound_rename [] l (logged_empty cs)

  pub sound_tick : (k : Clock) (t : ℕ) (g : Station) → Sound i cs g → Sound i cs (tick k t g)
  unfolding without_late timed
  sound_tick k t g s =
      record {
        log = s.log;
        identity = identified-kept i g _ refl (λ e. ap (map (tick_requester k.since (k.time g.timer t))) e) s.identity;
        forms = forms-kept _ (tick_keeps k.since (k.time g.timer t)) g.requesters s.forms;
      }

  sound_step : (k : Clock) (g : Station) (c : Call) → Among c cs → Sound i cs g → Sound i cs (step k most g c).station
  unfolding step
  sound_step k g c m s = sound_act (tick k (reading_of c) g) (sound_tick k (reading_of c) g s) k.since c m

  sound_run : (k : Clock) (later-calls : List Call) → ((c : Call) → Among c later-calls → Among c cs) → (g : Station) → Sound i cs g → Sound i cs (run k most g later-calls)
  unfolding run
  sound_run k [] f g s = s
  sound_run k (c ∷ rest) f g s = sound_run k rest (λ x m. f x (later m)) (step k most g c).station (sound_step k g c (f c first) s)

  sound_nobody : Sound i cs nobody
  sound_nobody = record { log = logged_empty cs; identity = unidentified refl refl; forms = nil }

  sound_setup : (l : List Listed) → Sound i cs (setup most i l).station
  unfolding setup
  sound_setup l =
      either After _ _ _ (λ _. sound_nobody)
      (λ good. either After _ _ _ (λ _. sound_nobody)
      (λ h. record { log = logged_empty cs; identity = identified refl (not-false _ h); forms = forms-named l (good-list most.requesters l good) }))

pub always_sound : AlwaysSound
always_sound = record {
  at-setup = λ most i l cs. sound_setup most i cs l;
  kept = λ k most i cs g c. sound_step most i cs k g c;
  after = λ k most i l cs. sound_run most i cs k cs (λ c m. m) (setup most i l).station (sound_setup most i cs l);
}
