-- Laws of the walks over conditions and elements: where they end, one turn, and the last.
-- Assumes nothing.
use Rattle.std.proofs.Common.{ℕ, zero, suc, ◌+◌, ◌≤◌, ◌<◌, ◌≡◌, refl, sym, List, length, arith, Bool, true, false, eqb, ne_eqb, lt-ltb, ltb-true, leb-false, eqb-true}
use Rattle.std.specs.Prelude.{None, Some, if◌then◌else◌}
use Rattle.laws.specs.Choice.{when◌then◌else◌}
use Rattle.laws.proofs.Choice.{either}
use Rattle.octets.specs.declared.numbers.Kind.{Kind}
use Rattle.traces.specs.declared.elements.Conditions.{Conditions}
use Rattle.traces.specs.declared.elements.Recorded.{Recorded}
use Rattle.traces.specs.declared.elements.Elements.{Elements}
use Rattle.traces.specs.Places.{place_behind_record, unless_refused, octets_end, list_end}
use Rattle.traces.specs.declared.places.RecordKind.TheVariants.{Setup, Clock, LogTransition, TakeFrame, Report, Roam, ChangeNetwork, LogRsna, LogPeerLink, WriteRequest, ReadReport, Explain}
use Rattle.traces.specs.Records.{IsUnknown, report_call_end, writer_call_end, fields_end, record_end}
use Rattle.traces.specs.Elements.{condition_end, with_condition, more_conditions, traced_element_at, with_traced, more_traced, started_trace, elements_at}

-- what the code has of a part, by where it ends
module _ {A : Type 0} where
  pub is_found : (end : ℕ) (x : A) → 0 < end → unless_refused end x ≡ Some x
  is_found zero x h = absurd (omega arith)
  is_found (suc end) x h = refl

  pub some_found : {end : ℕ} {x y : A} → Some y ≡ unless_refused end x → (y ≡ x) × (0 < end)
  some_found {end = zero} e = absurd cc
  some_found {end = suc n} e = (cc, omega arith)

  pub none_found : {end : ℕ} (x : A) → None ≡ unless_refused end x → end ≡ 0
  none_found {end = zero} x e = refl
  none_found {end = suc n} x e = absurd cc

-- a part ends behind its start, and behind what is refused ends nothing
pub record Onward (at end : ℕ) : Type 0 where
  pub on : 0 < end → (0 < at) × (at ≤ end)

pub nowhere : (at : ℕ) → Onward at 0
nowhere at = record { on = λ h. absurd (omega arith) }

infixr 5 ◌then◌
pub ◌then◌ : {at between end : ℕ} → Onward at between → Onward between end → Onward at end
p then q = record { on = λ h. let b = q.on h in let a = p.on b.0 in (a.0, omega (arith, a.1, b.1)) }

pub refused : {at end : ℕ} → Onward at end → at ≡ 0 → end ≡ 0
refused {end = zero} p e = refl
refused {end = suc n} p e = absurd (omega (arith, (p.on (omega arith)).0, e))

-- what would end past the end of the input is refused
pub behind-past : (s : List ℕ) (at n : ℕ) → length s < at + n → place_behind_record s at n ≡ 0
unfolding place_behind_record when◌then◌else◌
behind-past s zero n h = refl
behind-past s (suc at) n h = rw (ne_eqb (suc at) 0 (λ (e : suc at ≡ 0). omega arith), lt-ltb (length s) (suc at + n) h)

some_place : (at : ℕ) → eqb at 0 ≡ false → 0 < at
some_place zero e = absurd cc
some_place (suc at) e = omega arith

pub behind-none : (s : List ℕ) (n : ℕ) → place_behind_record s 0 n ≡ 0
unfolding place_behind_record when◌then◌else◌
behind-none s n = refl

module _ (s : List ℕ) where
  -- each part ends onward
  pub behind-onward : (at n : ℕ) → Onward at (place_behind_record s at n)
  unfolding place_behind_record
  behind-onward at n =
      either (Onward at) _ _ _ (λ _. nowhere at)
      (λ e. either (Onward at) _ _ _ (λ _. nowhere at) (λ _. record { on = λ h. (some_place at e, omega arith) }))

  -- where so many octets are not there, more are not either
  behind-more : (at n m : ℕ) → place_behind_record s at n ≡ 0 → place_behind_record s at (n + m) ≡ 0
  unfolding place_behind_record
  behind-more at n m =
      let P : ℕ → Type 0 = λ (k : ℕ). k ≡ 0 → place_behind_record s at (n + m) ≡ 0 in
      either P _ _ _ (λ z _. rw (eqb-true at 0 z) (behind-none s (n + m)))
      (λ z. either P _ _ _ (λ h _. behind-past s at (n + m) (omega (arith, ltb-true (length s) (at + n) h))) (λ _ h. absurd (omega (arith, some_place at z))))

  pub octets_onward : (at : ℕ) → Onward at (octets_end s at)
  unfolding octets_end
  octets_onward at = either (Onward at) _ _ _ (λ _. nowhere at) (λ _. behind-onward at 2 then behind-onward _ _)

  pub list_onward : (at : ℕ) → Onward at (list_end s at)
  unfolding list_end
  list_onward at = behind-onward at 1 then behind-onward _ _

  pub condition-onward : (ty at least : ℕ) → Onward at (condition_end s ty at least)
  unfolding condition_end
  condition-onward ty at least =
      either (Onward at) _ _ _ (λ _. nowhere at)
      (λ _. either (Onward at) _ _ _ (λ _. nowhere at) (λ _. either (Onward at) _ _ _ (λ _. nowhere at) (λ _. behind-onward at _)))

  pub conditions_onward : (ty k : ℕ) (w : Conditions) → Onward w.end (more_conditions s ty k w).end
  unfolding more_conditions with_condition
  conditions_onward ty zero w = record { on = λ h. (h, omega arith) }
  conditions_onward ty (suc k) w = condition-onward ty w.end w.least then conditions_onward ty k (with_condition s ty w)

  pub element_onward : (kind : Kind) (at : ℕ) → Onward at (traced_element_at s kind at).end
  unfolding traced_element_at
  element_onward kind at =
      let P : Recorded → Type 0 = λ (r : Recorded). Onward at r.end in
      either P _ _ _ (λ _. nowhere at)
      (λ _. either P _ _ _ (λ _. nowhere at) (λ _. either P _ _ _ (λ _. nowhere at) (λ _. behind-onward at 5 then conditions_onward _ _ _)))

  pub elements_onward : (kind : Kind) (k i : ℕ) (w : Elements) → Onward w.end (more_traced s kind k i w).end
  unfolding more_traced with_traced
  elements_onward kind zero i w = record { on = λ h. (h, omega arith) }
  elements_onward kind (suc k) i w = element_onward kind w.end then elements_onward kind k (i + 1) (with_traced w i (traced_element_at s kind w.end))

  pub elements-none : (kind : Kind) (count from : ℕ) → from ≡ 0 → (elements_at s kind count from).end ≡ 0
  elements-none kind count from = refused (elements_onward kind count 0 (started_trace from))

  report_call-onward : (at : ℕ) → Onward at (report_call_end s at)
  unfolding report_call_end
  report_call-onward at = either (Onward at) _ _ _ (λ _. nowhere at) (λ _. either (Onward at) _ _ _ (λ _. nowhere at) (λ _. behind-onward at 14))

  -- and is refused where its octets are not all there
  pub report_call-none : (at : ℕ) → place_behind_record s at 14 ≡ 0 → report_call_end s at ≡ 0
  unfolding report_call_end
  report_call-none at e = either (λ (n : ℕ). n ≡ 0) _ _ _ (λ _. refl) (λ _. either (λ (n : ℕ). n ≡ 0) _ _ _ (λ _. refl) (λ _. e))

  pub writer_call-none : (at : ℕ) → place_behind_record s at 6 ≡ 0 → writer_call_end s at ≡ 0
  unfolding writer_call_end
  writer_call-none at e = either (λ (n : ℕ). n ≡ 0) _ _ _ (λ _. refl) (λ _. either (λ (n : ℕ). n ≡ 0) _ _ _ (λ _. refl) (λ _. elements-none _ _ _ e))

  pub condition-none : (ty at least : ℕ) → place_behind_record s at 2 ≡ 0 → condition_end s ty at least ≡ 0
  unfolding condition_end
  condition-none ty at least e =
      let P : ℕ → Type 0 = λ (n : ℕ). n ≡ 0 in
      either P _ _ _ (λ _. refl) (λ _. either P _ _ _ (λ _. refl) (λ _. either P _ _ _ (λ _. refl) (λ _. behind-more at 2 _ e)))

  writer_call-onward : (at : ℕ) → Onward at (writer_call_end s at)
  unfolding writer_call_end
  writer_call-onward at = either (Onward at) _ _ _ (λ _. nowhere at)
      (λ _. either (Onward at) _ _ _ (λ _. nowhere at) (λ _. behind-onward at 6 then elements_onward _ _ _ _))

  fields_onward : (number at : ℕ) → Onward at (fields_end s number at)
  unfolding fields_end
  fields_onward number at =
      let P = Onward at in
      either P _ _ _ (λ _. octets_onward at then list_onward _) (λ _.
      either P _ _ _ (λ _. behind-onward at 4) (λ _.
      either P _ _ _ (λ _. behind-onward at 59) (λ _.
      either P _ _ _ (λ _. behind-onward at 16 then octets_onward _) (λ _.
      either P _ _ _ (λ _. report_call-onward at) (λ _.
      either P _ _ _ (λ _. behind-onward at 4 then list_onward _) (λ _.
      either P _ _ _ (λ _. behind-onward at 4 then list_onward _) (λ _.
      either P _ _ _ (λ _. behind-onward at 55 then octets_onward _) (λ _.
      either P _ _ _ (λ _. behind-onward at 49) (λ _.
      either P _ _ _ (λ _. writer_call-onward at) (λ _.
      either P _ _ _ (λ _. behind-onward at 7 then octets_onward _) (λ _.
      either P _ _ _ (λ _. octets_onward at then behind-onward _ 4) (λ _. nowhere at))))))))))))

  -- a record of another number has no fields
  pub fields-unknown : (number at : ℕ) → IsUnknown number → fields_end s number at ≡ 0
  unfolding fields_end when◌then◌else◌
  fields-unknown n at un = rw (ne_eqb n 0 (λ (e : n ≡ 0). un Setup (sym e)), ne_eqb n 1 (λ (e : n ≡ 1). un Clock (sym e)), ne_eqb n 2 (λ (e : n ≡ 2). un LogTransition (sym e)), ne_eqb n 3 (λ (e : n ≡ 3). un TakeFrame (sym e)), ne_eqb n 4 (λ (e : n ≡ 4). un Report (sym e)), ne_eqb n 5 (λ (e : n ≡ 5). un Roam (sym e)), ne_eqb n 6 (λ (e : n ≡ 6). un ChangeNetwork (sym e)), ne_eqb n 7 (λ (e : n ≡ 7). un LogRsna (sym e)), ne_eqb n 8 (λ (e : n ≡ 8). un LogPeerLink (sym e)), ne_eqb n 16 (λ (e : n ≡ 16). un WriteRequest (sym e)), ne_eqb n 17 (λ (e : n ≡ 17). un ReadReport (sym e)), ne_eqb n 18 (λ (e : n ≡ 18). un Explain (sym e)))

  -- a record that is not refused starts before the end of the input, and ends behind its start
  pub record_onward : (at : ℕ) → 0 < record_end s at → (at < length s) × (at < record_end s at)
  unfolding record_end
  record_onward at =
      let P : ℕ → Type 0 = λ (end : ℕ). 0 < end → (at < length s) × (at < end) in
      either P _ _ _ (λ _ h. absurd (omega arith))
      (λ e h. (leb-false (length s) at e, omega (arith, ((fields_onward _ (at + 1)).on h).1)))

-- what the code has of a part that a test refuses
pub passed : {A : Type 0} {x y : A} (b : Bool) → Some y ≡ (if b then None else Some x) → (b ≡ false) × (y ≡ x)
passed true e = absurd cc
passed false e = (refl, cc)

pub refused_by : {A : Type 0} (x : A) (b : Bool) → None ≡ (if b then None else Some x) → b ≡ true
refused_by x true e = refl
refused_by x false e = absurd cc

module _ (s : List ℕ) (ty n : ℕ) (w : Conditions) where
  pub conditions_next : (k : ℕ) → n ≡ suc k → more_conditions s ty n w ≡ more_conditions s ty k (with_condition s ty w)
  unfolding more_conditions
  conditions_next k e = rw e

  pub conditions_done : n ≡ 0 → more_conditions s ty n w ≡ w
  unfolding more_conditions
  conditions_done z = rw z

module _ (s : List ℕ) (kind : Kind) (n i : ℕ) (w : Elements) where
  pub elements_next : (k : ℕ) → n ≡ suc k → more_traced s kind n i w ≡ more_traced s kind k (i + 1) (with_traced w i (traced_element_at s kind w.end))
  unfolding more_traced
  elements_next k e = rw e

  pub elements-done : n ≡ 0 → more_traced s kind n i w ≡ w
  unfolding more_traced
  elements-done z = rw z
