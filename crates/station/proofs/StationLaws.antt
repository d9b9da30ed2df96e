-- Laws of the station's views, and of what setup does not refuse.
-- Assumes nothing.
use Rattle.std.proofs.Common.{ℕ, ◌≤◌, ◌<◌, min, ◌≡◌, refl, sym, ap, ◌∙◌, Bool, true, false, List, [], ◌∷◌, ◌++◌, map, eqb, length, take, drop, length-take, take_all, take_at, ltb-false, eqb-true, eq-eqb, ne_eqb, arith}
use Rattle.std.proofs.Math.Option.{none, some}
use Rattle.std.proofs.Math.Seq.{take-length}
use Rattle.std.proofs.lemmas.Bool.{eqb-false}
use Rattle.laws.specs.Choice.{when◌then◌else◌}
use Rattle.laws.specs.Buffers.{onto}
use Rattle.laws.proofs.Arrays.{take_within, length-within}
use Rattle.laws.proofs.Choice.{either}
use Rattle.units.specs.Time.{elapsed_since}
use Rattle.octets.specs.Refusals.{refused, bad_requester_list, bad_identity, number_unless}
use Rattle.events.specs.declared.Entry.{Entry}
use Rattle.events.specs.declared.Log.{Log}
use Rattle.model.specs.Clocks.{unset, elapsed_clock}
use Rattle.model.specs.Model.{standard, requester_capacity, Listed, Requester as ModelRequester, Station, Answer, Result, accepted}
use Rattle.identities.specs.Identity.{stands, pass_row, good_from, good_identity}
use Rattle.model.specs.Requesters.{bad_list}
use Rattle.requesters.specs.Views.{view_answer, view_identity, view_requester}
use Rattle.requesters.specs.declared.Requester.{Requester}
use Rattle.station.proofs.RequesterLaws.{named_views}
use Rattle.station.specs.declared.Timer.{Timer}
use Rattle.station.specs.declared.Station.{Station as CodeStation}
use Rattle.station.specs.declared.Outcome.{Outcome}
use Rattle.station.specs.declared.moves.Renaming.{Renaming}
use Rattle.station.specs.Memory.{unset_timer, advanced_timer, named_station, setup_station, renamed_station, Leaves}
use Rattle.station.specs.Internal.{ticked_station, accepted_outcome, rename_cause, answer_to, Renames, with_renaming}
use Rattle.station.specs.Views.{view_timer, view, view_outcome}
use Rattle.model.specs.Stations.{result, refused_for, timed, tick_requester, without_late, tick, nobody, new_station, setup, rename_with, rename}
use Rattle.events.specs.Log.{logged, blank_log}

-- a list that is not refused has at most four addresses
pub good_length : (l : List Listed) → bad_list requester_capacity l ≡ false → length l ≤ requester_capacity
unfolding bad_list
good_length l =
    let P : Bool → Type 0 = λ (b : Bool). b ≡ false → length l ≤ requester_capacity in
    either P _ _ _ (λ _ e. absurd (let z : ◌≡◌ {A = ℕ} 0 1 = cc in omega arith))
    (λ _. either P _ _ _ (λ _ e. absurd (let z : ◌≡◌ {A = ℕ} 0 1 = cc in omega arith)) (λ h _. ltb-false 4 (length l) h))

-- an identity has an octet
pub identity_some : (s : List ℕ) → good_identity s ≡ true → 0 < length s
unfolding good_identity good_from pass_row stands when◌then◌else◌
identity_some [] e = let z : ◌≡◌ {A = ℕ} 0 1 = cc in absurd (omega arith)
identity_some (x ∷ s) e = omega arith

-- the identity of a station by its length
view_none : (n : ℕ) (o : List ℕ) → n ≡ 0 → view_identity n o ≡ none
unfolding view_identity when◌then◌else◌
view_none n o e = rw (eq-eqb n 0 e)

view_some : (n : ℕ) (o : List ℕ) → (n ≡ 0 → ⊥) → view_identity n o ≡ some (take n o)
unfolding view_identity when◌then◌else◌
view_some n o e = rw (ne_eqb n 0 e)

-- an identity cut at its length, which a report call is lent
pub identity-cut : (n : ℕ) (o : List ℕ) → length o ≡ 252 → (end : ℕ) → end ≡ min n 252 → view_identity (length (take end o)) (take 252 (take end o)) ≡ view_identity n o
identity-cut n o whole end h = go (eqb n 0) refl
  where
    short : length (take end o) ≡ end
    short = length-within o 252 end whole n h

    go : (b : Bool) → eqb n 0 ≡ b → view_identity (length (take end o)) (take 252 (take end o)) ≡ view_identity n o
    go true e = view_none _ _ (omega (arith, short, h, eqb-true n 0 e)) ∙ sym (view_none n o (eqb-true n 0 e))
    go false e =
        view_some _ _ (λ z. eqb-false n 0 e (omega (arith, short, h, z)))
        ∙ ap some (take_all _ _ (omega (arith, length-take 252 (take end o))) ∙ take_all 252 (take end o) (omega (arith, short, h)) ∙ take_within o 252 end whole n h)
        ∙ sym (view_some n o (eqb-false n 0 e))

-- a station that names the requesters of a list
view-named : (t : Timer) (n : ℕ) (o : List ℕ) (log : Log) (l : List Listed) → (n ≡ 0 → ⊥) → length l ≤ requester_capacity → view (named_station t o n log l) ≡ new_station (view_timer t) (take n o) (logged log) l
unfolding view
view-named t n o log l h few = rw (view_some n o h, named_views l few)

pub view-setup : (i : List ℕ) (l : List Listed) → 0 < length i → length l ≤ requester_capacity → view (setup_station i l) ≡ new_station unset i [] l
unfolding logged view_timer when◌then◌else◌
view-setup i l h few =
    view-named unset_timer (length i) _ blank_log l (λ z. omega arith) few ∙ ap (λ (o : List ℕ). new_station unset o [] l) (take_at i _ (length i) refl)

-- an identity that was copied to the front of an array
pub copied_front : (s o y : List ℕ) → y ≡ take (length s) s ++ drop (length s) o → y ≡ onto s o
copied_front s o y e = e ∙ ap (λ (x : List ℕ). x ++ drop (length s) o) (take-length s)

-- a station at a call with a reading, whose requesters are those that the late drop leaves
pub view_ticked : (g : CodeStation) (reading : ℕ) (rs : List Requester)
    → map view_requester (take g.count rs) ≡ map (tick_requester elapsed_since (advanced_timer g.timer reading).now.0) (map view_requester (take g.count g.requesters))
    → view (ticked_station g reading rs) ≡ tick elapsed_clock reading (view g)
unfolding view view_timer timed without_late when◌then◌else◌
view_ticked g reading rs e =
    ap (λ (l : List ModelRequester). record { timer = view_timer (advanced_timer g.timer reading); identity = view_identity g.length g.identity; log = logged g.log; requesters = l }) e

-- ---- outcomes

module _ (o : Outcome) where
  pub accepted-view : (g : CodeStation) → o ≡ accepted_outcome g → view_outcome o [] ≡ result (view g) accepted []
  unfolding view_outcome view_answer
  accepted-view g e = ap (λ (x : Outcome). view_outcome x []) e

  pub accepted_leaves : (g : CodeStation) → o ≡ accepted_outcome g → Leaves o g
  accepted_leaves g e a = ap (λ (x : Outcome). x.station) e

  -- of one that is refused `Leaves` says nothing
  pub refused_leaves : (g : CodeStation) (v : Station) (cause : ℕ) → view_outcome o [] ≡ result v (refused_for cause) [] → Leaves o g
  unfolding view_outcome
  refused_leaves g v cause e a = let z : ◌≡◌ {A = ℕ} 0 1 = cc (ap (λ (r : Result). r.answer) e) in absurd (omega arith)

-- ---- the ladders, by the tests that lead to each step

module _ (log : List Entry) (l : List Listed) (g : Station) where
  rename_bad : bad_list requester_capacity l ≡ true → result g (refused_for bad_requester_list) [] ≡ rename standard log l g
  unfolding rename when◌then◌else◌
  rename_bad e = rw e

  rename_none : bad_list requester_capacity l ≡ false → g.identity ≡ none → result g (refused_for bad_identity) [] ≡ rename standard log l g
  unfolding rename rename_with when◌then◌else◌
  rename_none e f = rw (e, f)

  rename_some : (i : List ℕ) → bad_list requester_capacity l ≡ false → g.identity ≡ some i → result (new_station g.timer i log l) accepted [] ≡ rename standard log l g
  unfolding rename rename_with when◌then◌else◌
  rename_some i e f = rw (e, f)

  module _ (n : ℕ) (o : List ℕ) (is : g.identity ≡ view_identity n o) where
    rename-refused : (rename_cause n l ≡ 0 → ⊥) → result g (refused_for (rename_cause n l)) [] ≡ rename standard log l g
    unfolding rename_cause when◌then◌else◌
    rename-refused h = go (bad_list requester_capacity l) refl (eqb n 0) refl
      where
        go : (b : Bool) → bad_list requester_capacity l ≡ b → (z : Bool) → eqb n 0 ≡ z → result g (refused_for (rename_cause n l)) [] ≡ rename standard log l g
        go true e z f = rw e (rename_bad e)
        go false e true f = rw (e, f) (rename_none e (is ∙ view_none n o (eqb-true n 0 f)))
        go false e false f = absurd (h (rw (e, f)))

-- a list that a station with an identity takes
rename_takes : (n : ℕ) (l : List Listed) → rename_cause n l ≡ 0 → (bad_list requester_capacity l ≡ false) × (n ≡ 0 → ⊥)
unfolding rename_cause when◌then◌else◌
rename_takes n l = go (bad_list requester_capacity l) refl (eqb n 0) refl
  where
    go : (b : Bool) → bad_list requester_capacity l ≡ b → (z : Bool) → eqb n 0 ≡ z → (when b then bad_requester_list else when z then bad_identity else 0) ≡ 0 → (bad_list requester_capacity l ≡ false) × (n ≡ 0 → ⊥)
    go true e z f h = absurd (omega arith)
    go false e true f h = absurd (omega arith)
    go false e false f h = (e, eqb-false n 0 f)

-- what a list makes of a station at a call with a reading, whatever the call's log
module _ (g : CodeStation) (reading : ℕ) (l : List Listed) (r : Renaming) (is : Renames g.timer g.length g.requesters g.count reading l r) (o : Outcome) (answer : view_answer o.answer ≡ answer_to (refused (number_unless r.check) 0)) where
  module _ (z : (number_unless r.check) ≡ 0 → ⊥) (s : o.station ≡ with_renaming g r g.log) where
    renames_late : view_outcome o [] ≡ result (tick elapsed_clock reading (view g)) (refused_for (rename_cause g.length l)) []
    unfolding view_outcome answer_to when◌then◌else◌
    renames_late =
        let drops = is.dropped z in
        let late : o.station ≡ ticked_station g reading r.requesters = s ∙ rw (is.timed, drops.0) in
        let turned : view_answer o.answer ≡ refused_for (rename_cause g.length l) = answer ∙ rw (ne_eqb (number_unless r.check) 0 z) (ap (λ (k : ℕ). refused_for k) is.caused) in
        ap (λ (v : Station). result v (view_answer o.answer) []) (ap view late ∙ view_ticked g reading r.requesters drops.1)
        ∙ ap (λ (a : Answer). result (tick elapsed_clock reading (view g)) a []) turned

    renames_refused : (log : List Entry) → view_outcome o [] ≡ rename standard log l (tick elapsed_clock reading (view g))
    unfolding view timed without_late
    renames_refused log = renames_late ∙ rename-refused log l (tick elapsed_clock reading (view g)) g.length g.identity refl (λ f. z (is.caused ∙ f))

    renames_nothing : (x : CodeStation) → Leaves o x
    renames_nothing x = refused_leaves o x _ _ renames_late

  module _ (e : (number_unless r.check) ≡ 0) (log : Log) (s : o.station ≡ with_renaming g r log) where
    renames_all : o.station ≡ renamed_station g reading log l
    renames_all = s ∙ rw (is.timed, (is.named e).0, (is.named e).1)

    renames_leaves : Leaves o (renamed_station g reading log l)
    renames_leaves _ = renames_all

    renames_taken : view_outcome o [] ≡ rename standard (logged log) l (tick elapsed_clock reading (view g))
    unfolding view_outcome view view_timer timed without_late answer_to when◌then◌else◌
    renames_taken =
        let takes = rename_takes g.length l (sym is.caused ∙ e) in
        let named = view-named (advanced_timer g.timer reading) g.length g.identity log l takes.1 (good_length l takes.0) in
        let taken : view_answer o.answer ≡ accepted = answer ∙ rw (eq-eqb (number_unless r.check) 0 e) in
        ap (λ (v : Station). result v (view_answer o.answer) []) (ap view renames_all ∙ named)
        ∙ ap (λ (a : Answer). result (new_station (view_timer (advanced_timer g.timer reading)) (take g.length g.identity) (logged log) l) a []) taken
        ∙ rename_some (logged log) l (tick elapsed_clock reading (view g)) _ takes.0 (view_some g.length g.identity takes.1)

  -- refused, with the log that it had, or taken with a log, by the cause
  pub renames : (log : Log) → o.station ≡ with_renaming g r (when eqb (number_unless r.check) 0 then log else g.log)
      → (view_outcome o [] ≡ rename standard (logged log) l (tick elapsed_clock reading (view g))) × Leaves o (renamed_station g reading log l)
  unfolding when◌then◌else◌
  renames log = go (eqb (number_unless r.check) 0) refl
    where
      go : (b : Bool) → eqb (number_unless r.check) 0 ≡ b → o.station ≡ with_renaming g r (when b then log else g.log)
          → (view_outcome o [] ≡ rename standard (logged log) l (tick elapsed_clock reading (view g))) × Leaves o (renamed_station g reading log l)
      go true h s = let e = eqb-true (number_unless r.check) 0 h in (renames_taken e log s, renames_leaves e log s)
      go false h s = let z = eqb-false (number_unless r.check) 0 h in (renames_refused z s (logged log), renames_nothing z s (renamed_station g reading log l))

  -- with the log that it had in any case
  pub roams : o.station ≡ with_renaming g r g.log → (view_outcome o [] ≡ rename standard (logged g.log) l (tick elapsed_clock reading (view g))) × Leaves o (renamed_station g reading g.log l)
  unfolding when◌then◌else◌
  roams s = renames g.log (s ∙ ap (with_renaming g r) (sym (same (eqb (number_unless r.check) 0))))
    where
      same : (b : Bool) → (when b then g.log else g.log) ≡ g.log
      same true = refl
      same false = refl

module _ (i : List ℕ) (l : List Listed) where
  pub setup-bad_list : bad_list requester_capacity l ≡ true → result nobody (refused_for bad_requester_list) [] ≡ setup standard i l
  unfolding setup when◌then◌else◌
  setup-bad_list e = rw e

  pub setup-bad_identity : bad_list requester_capacity l ≡ false → good_identity i ≡ false → result nobody (refused_for bad_identity) [] ≡ setup standard i l
  unfolding setup when◌then◌else◌
  setup-bad_identity e f = rw (e, f)

  pub setup-good : bad_list requester_capacity l ≡ false → good_identity i ≡ true → result (new_station unset i [] l) accepted [] ≡ setup standard i l
  unfolding setup when◌then◌else◌
  setup-good e f = rw (e, f)
