-- What is decoded of an event's octets is what was logged, for each kind; and its report has the length of its type.
-- Assumes nothing.
use Rattle.std.proofs.Common.{ℕ, ◌+◌, ◌<◌, ◌≡◌, refl, ap, ◌∙◌, Bool, true, false, ◌||◌, List, ◌++◌, append_assoc, arith, eqb, ltb, length, get_or, drop, eq-eqb, eqb-true}
use Rattle.std.proofs.Math.ListN.{get_or-append}
use Rattle.laws.specs.Choice.{when◌then◌else◌}
use Rattle.laws.proofs.Choice.{never}
use Rattle.laws.proofs.Parts.{stands_at, stands-behind}
use Rattle.units.specs.Time.{age, tus_of}
use Rattle.octets.specs.Fields.{octets_at}
use Rattle.octets.specs.Times.{time_at}
use Rattle.octets.proofs.PlaceLaws.{octets_stand}
use Rattle.subelements.specs.Subelements.{tables}
use Rattle.events.specs.declared.times.Times.{Times}
use Rattle.events.specs.Times.{draft, time_length, published_fields, by_form}
use Rattle.events.specs.Transitions.{transition_length, transition_body}
use Rattle.events.specs.RsnaEvents.{method_offset, rsn_length, rsna_length, rsna_body}
use Rattle.events.specs.PeerLinks.{peer_link_length, peer_link_body}
use Rattle.events.specs.Log.{time_of}
use Rattle.events.specs.Loggings.{LoggedEvent, transition, rsna, peer_link, event_type, event_body, good_rsn_element, entry_with, entry_of, TimesLengths, EventLengths}
use Rattle.events.proofs.LoggingLaws.{time-length}
use Rattle.events.proofs.TransitionLaws.{body_length, source_back, target_back, took_back, reason_back, result_back, signals_back}
use Rattle.events.proofs.RsnaLaws.{rsna-whole, method-first, rsna-target_back, authentication_back, method_back, rsna-result_back, rsn_back}
use Rattle.events.proofs.PeerLinkLaws.{peer-link-length, peer_back, class_back, channel_back, power_back, connection_back, peer_status_back}
use Rattle.report_reader.specs.Decoders.{draft_times, published_times, times_in, transition_in, rsna_in, peer_link_in, decoded}
use Rattle.report_reader.specs.Reader.{report_length, is_rsna_length, is_event_length}
use Rattle.report_reader.specs.Contents.{carried_times, reported_event}

-- ---- the time fields in a form, and a body behind them

module _ (t : Times) (body : List ℕ) (w : TimesLengths t) where
  draft-first : time_at (t.time ++ body) 0 ≡ t.time
  draft-first = octets_stand (t.time ++ body) 0 9 t.time body w.time refl

  published-first : (o : List ℕ) → o ≡ published_fields t ++ body
      → published_times (octets_at o 0 8) (octets_at o 8 10) (octets_at o 18 5) ≡ published_times t.tsf t.offset t.error
  unfolding published_fields
  published-first o e =
      let a : o ≡ t.tsf ++ (t.offset ++ (t.error ++ body)) =
      e ∙ append_assoc t.tsf (t.offset ++ t.error) body ∙ ap (λ (r : List ℕ). t.tsf ++ r) (append_assoc t.offset t.error body) in
      let b : drop 8 o ≡ t.offset ++ (t.error ++ body) = stands-behind o 0 t.tsf (t.offset ++ (t.error ++ body)) a 8 (omega (arith, w.tsf)) in
      let d : drop 18 o ≡ t.error ++ body = stands-behind o 8 t.offset (t.error ++ body) b 18 (omega (arith, w.offset)) in
      rw (octets_stand o 0 8 t.tsf _ w.tsf a, octets_stand o 8 10 t.offset _ w.offset b, octets_stand o 18 5 t.error body w.error d)

  times-first : (form : ℕ) → times_in form (by_form form t.time (published_fields t) ++ body) ≡ carried_times form t
  unfolding times_in when◌then◌else◌
  times-first form = go (eqb form draft)
    where
      go : (b : Bool) → let o = (when b then t.time else published_fields t) ++ body in
          (when b then draft_times (time_at o 0) else published_times (octets_at o 0 8) (octets_at o 8 10) (octets_at o 18 5))
          ≡ (when b then draft_times t.time else published_times t.tsf t.offset t.error)
      go true = ap draft_times draft-first
      go false = published-first (published_fields t ++ body) refl

body_behind : (time body : List ℕ) (n : ℕ) → length time ≡ n → drop n (time ++ body) ≡ body
body_behind time body n e = stands-behind (time ++ body) 0 time body refl n (omega (arith, e))

-- ---- its fields

pub decoded_back : (form stamp reading : ℕ) (x : LoggedEvent) → EventLengths x
    → decoded form (event_type x) (time_of form (entry_of stamp reading x) ++ event_body reading x) ≡ reported_event form reading x
unfolding decoded transition_in rsna_in peer_link_in entry_with when◌then◌else◌
decoded_back form stamp reading (transition t) w =
    let tus : ℕ = tus_of (age reading t.departure.0) in
    let body : List ℕ = transition_body t tus in
    let f = w.fields in
    rw (times-first t.times body w.times form, body_behind (time_of form (entry_of stamp reading (transition t))) body (time_length form) (time-length form stamp reading (transition t) w), source_back t tus f, target_back t tus f, took_back t tus f, reason_back t tus f, result_back t tus f, signals_back t tus f)
decoded_back form stamp reading (rsna e rsn) w =
    let body : List ℕ = rsna_body e rsn in
    let f = w.fields in
    rw (times-first e.times body w.times form, body_behind (time_of form (entry_of stamp reading (rsna e rsn))) body (time_length form) (time-length form stamp reading (rsna e rsn) w), rsna-target_back e rsn f, authentication_back e rsn f, method_back e rsn f, rsna-result_back e rsn f, rsn_back e rsn f)
decoded_back form stamp reading (peer_link e) w =
    let body : List ℕ = peer_link_body e in
    let f = w.fields in
    rw (times-first e.times body w.times form, body_behind (time_of form (entry_of stamp reading (peer_link e))) body (time_length form) (time-length form stamp reading (peer_link e) w), peer_back e f, class_back e f, channel_back e f, power_back e f, connection_back e f, peer_status_back e f)

-- ---- its type and its length

pub typed : (x : LoggedEvent) → ltb (event_type x) tables ≡ true
typed (transition t) = refl
typed (rsna e rsn) = refl
typed (peer_link e) = refl

or_true : (b : Bool) → (b || true) ≡ true
or_true true = refl
or_true false = refl

rsna-fits : (form first n m : ℕ) → (eqb m 0 || eqb m rsn_length) ≡ true → n ≡ report_length form (rsna_length first + m) → is_rsna_length form first n ≡ true
rsna-fits form first n m h e = go (eqb m 0) (eqb m rsn_length) refl refl h
  where
    go : (x y : Bool) → eqb m 0 ≡ x → eqb m rsn_length ≡ y → (x || y) ≡ true → is_rsna_length form first n ≡ true
    go true y p q k = rw (eq-eqb n (report_length form (rsna_length first)) (omega (arith, eqb-true m 0 p)))
    go false true p q k = rw (eq-eqb n (report_length form (rsna_length first + rsn_length)) (omega (arith, eqb-true m rsn_length q))) (or_true (eqb n (report_length form (rsna_length first))))
    go false false p q k = never k

module _ (form : ℕ) (s : List ℕ) (at : ℕ) (r : List ℕ) (reading : ℕ) where
  pub length-fits : (x : LoggedEvent) → EventLengths x → good_rsn_element x ≡ true → drop (at + 5 + time_length form) s ≡ event_body reading x ++ r
      → (n : ℕ) → n ≡ report_length form (length (event_body reading x)) → is_event_length form s at n (event_type x) ≡ true
  unfolding is_event_length when◌then◌else◌
  length-fits (transition t) w good h n e = eq-eqb n (report_length form transition_length) (e ∙ ap (report_length form) (body_length t (tus_of (age reading t.departure.0)) w.fields))
  length-fits (rsna a rsn) w good h n e =
      let body : List ℕ = rsna_body a rsn in
      let first : ℕ = get_or a.method 0 0 in
      let some : method_offset < length body = omega (arith, rsna-whole a rsn w.fields) in
      let there : get_or s (at + 5 + time_length form + method_offset) 0 ≡ first =
      stands_at s (at + 5 + time_length form) body r h method_offset 0 ∙ get_or-append body r 0 method_offset some ∙ method-first a rsn w.fields in
      rw there (rsna-fits form first n (length rsn) good (e ∙ ap (report_length form) (rsna-whole a rsn w.fields)))
  length-fits (peer_link a) w good h n e = eq-eqb n (report_length form peer_link_length) (e ∙ ap (report_length form) (peer-link-length a w.fields))
