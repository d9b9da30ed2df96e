-- Demand 1: a refused call leaves the station as a bare clock reading would, and writes no octet of a lent buffer.
-- Assumes nothing.
use Rattle.std.proofs.Common.{ℕ, ◌≡◌, refl, sym, ◌∙◌, ap, Bool, true, false, List, [], ◌∷◌, eqb, arith}
use Rattle.std.proofs.Math.Option.{Option, none, some, some-injective}
use Rattle.std.proofs.lemmas.Bool.{eqb-false, not-true}
use Rattle.laws.specs.Members.{Among, first, later}
use Rattle.laws.specs.Choice.{when◌then◌else◌}
use Rattle.laws.proofs.Members.{among_at_most, among_behind}
use Rattle.laws.proofs.Choice.{either, never}
use Rattle.octets.specs.declared.numbers.Kind.{Kind}
use Rattle.octets.specs.declared.numbers.Kind.TheVariants.{Event, Diagnostic}
use Rattle.octets.specs.Addresses.{same}
use Rattle.octets.specs.Refusals.{no_element, group_destination, unknown_requester, short_buffer, bad_time, bad_requester_list, bad_identity, bad_report_body, Refusal}
use Rattle.requests.specs.Requests.{request_causes, read_request}
use Rattle.requests.proofs.Causes.{request_listed}
use Rattle.events.specs.declared.Entry.{Entry}
use Rattle.events.specs.Loggings.{LoggedEvent}
use Rattle.model.specs.Model.{Capacities, Address, Listed, Requester, Station, Call, clock, logging, frame, report, roam, change, Answer, turned_away, Result}
use Rattle.model.specs.Requesters.{find, put}
use Rattle.model.specs.Stations.{refused_for, nobody, setup, tick, log_cause, log_call, Served, with_requester, serve_found, serve_listed, take_request, request_call, frame_call, give_events, give_diagnostics, if_outstanding, octets_of, give_kind, give_report, report_call, rename_with, rename, act, reading_of, step}
use Rattle.model.specs.Refusals.{lent_buffer, causes_of, setup_causes, RefusedBy, RefusedCall, RefusedSetup}

-- ---- what a refusal leaves of a state S (a station, or a requester) and of a lent buffer

record Alone {S : Type 0} (causes : List ℕ) (s : S) (b : List ℕ) (r : Refusal) (s' : S) (b' : List ℕ) : Type 0 where
  refusal : RefusedBy causes r
  state : s' ≡ s
  buffer : b' ≡ b

abbrev IfRefused : {S : Type 0} → List ℕ → S → List ℕ → Answer → S → List ℕ → Type 0
IfRefused causes s b answer s' b' = (r : Refusal) → answer ≡ turned_away r → Alone causes s b r s' b'

refused-is : (q r : Refusal) → turned_away q ≡ turned_away r → q ≡ r
refused-is q r e = cc

module _ {S : Type 0} (causes : List ℕ) (s : S) (b : List ℕ) where
  -- a refusal that touches nothing
  by_refusal : (q : Refusal) → RefusedBy causes q → IfRefused causes s b (turned_away q) s b
  by_refusal q by r e = record { refusal = rw (← refused-is q r e) by; state = refl; buffer = refl }

  -- by a cause of the station itself
  by_cause : (n : ℕ) → Among n causes → IfRefused causes s b (refused_for n) s b
  by_cause n m = by_refusal (record { number = n; place = 0 }) (record { number = m; place = λ _. refl })

-- ---- the calls of a requester

put-found : (a : Address) (r : Requester) (rs : List Requester) → find a rs ≡ some r → put a r rs ≡ rs
unfolding find put when◌then◌else◌
put-found a r [] e = refl
put-found a r (q ∷ rs) e = go (same a q.address) e (put-found a r rs)
  where
    go : (t : Bool) → (when t then some q else find a rs) ≡ some r → (find a rs ≡ some r → put a r rs ≡ rs) → (when t then r ∷ rs else q ∷ put a r rs) ≡ q ∷ rs
    go true h rest = ap (λ (x : Requester). x ∷ rs) (sym (some-injective q r h))
    go false h rest = ap (λ (l : List Requester). q ∷ l) (rest h)

abbrev Kept : List ℕ → Station → List ℕ → Result → Type 0
Kept causes g b x = IfRefused causes g b x.answer x.station x.buffer

abbrev Left : List ℕ → Requester → List ℕ → Served → Type 0
Left causes r b x = IfRefused causes r b x.answer x.requester x.buffer

module _ (causes : List ℕ) (a : Address) (serve : Requester → Served) (b : List ℕ) (g : Station) (listed : Among unknown_requester causes) (left : (r : Requester) → Left causes r b (serve r)) where
  found-kept : (o : Option Requester) → find a g.requesters ≡ o → Kept causes g b (serve_found a serve b g o)
  unfolding serve_found with_requester
  found-kept none e = by_cause causes g b unknown_requester listed
  found-kept (some r) e = λ q h.
      let p = left r q h in
      record {
        refusal = p.refusal;
        state =
            ap (λ (x : List Requester). record { timer = g.timer; identity = g.identity; log = g.log; requesters = x })
            (ap (λ (y : Requester). put a y g.requesters) p.state ∙ put-found a r g.requesters e);
        buffer = p.buffer;
      }

-- ---- frames

abbrev frame_causes : List ℕ
frame_causes = group_destination ∷ unknown_requester ∷ request_causes

read_by : (n : ℕ) (o : List ℕ) → eqb (read_request n o).refusal.number 0 ≡ false → RefusedBy frame_causes (read_request n o).refusal
read_by n o z =
    let m = among_behind (request_listed n o) (eqb-false _ 0 z) in
    record { number = later (later m); place = λ past. absurd (omega (arith, past, among_at_most no_element _ request_causes refl m)) }

take_left : (n now : ℕ) (log : List Entry) (o : List ℕ) (r : Requester) → Left frame_causes r [] (take_request now log (read_request n o) r)
unfolding take_request
take_left n now log o r = either (Left frame_causes r []) _ _ _ (λ h. by_refusal frame_causes r [] _ (read_by n o (not-true _ h))) (λ _ q e. never cc)

-- ---- reports

abbrev report_causes : List ℕ
report_causes = unknown_requester ∷ short_buffer ∷ []

module _ (since : ℕ → ℕ → ℕ) (b : List ℕ) (r : Requester) where
  outstanding-left : {Q : Type 0} (give : Q → Served) → ((q : Q) → Left report_causes r b (give q)) → (o : Option Q) → Left report_causes r b (if_outstanding give r b o)
  unfolding if_outstanding
  outstanding-left give f none = λ q e. never cc
  outstanding-left give f (some x) = f x

  kind_left : (i : Option (List ℕ)) (log : List Entry) (k : Kind) → Left report_causes r b (give_kind since i log b r k)
  unfolding give_kind give_events give_diagnostics
  kind_left i log Event = outstanding-left (give_events since log b r) (λ x q e. never cc) r.events
  kind_left i log Diagnostic = outstanding-left (give_diagnostics (octets_of i) b r) (λ x q e. never cc) r.diagnostics

  report-left : (i : Option (List ℕ)) (log : List Entry) (k : Kind) → Left report_causes r b (give_report since i log k b r)
  unfolding give_report
  report-left i log k = either (Left report_causes r b) _ _ _ (λ _. by_cause report_causes r b short_buffer (later first)) (λ _. kind_left i log k)

-- ---- moves and network changes

abbrev rename_causes : List ℕ
rename_causes = bad_requester_list ∷ bad_identity ∷ []

module _ (most : Capacities) (log : List Entry) (l : List Listed) (g : Station) where
  renamed_kept : (o : Option (List ℕ)) → Kept rename_causes g [] (rename_with log l g o)
  unfolding rename_with
  renamed_kept none = by_cause rename_causes g [] bad_identity (later first)
  renamed_kept (some i) = λ q e. never cc

  rename-kept : Kept rename_causes g [] (rename most log l g)
  unfolding rename
  rename-kept = either (Kept rename_causes g []) _ _ _ (λ _. by_cause rename_causes g [] bad_requester_list first) (λ _. renamed_kept g.identity)

-- ---- logging

abbrev logging_causes : List ℕ
logging_causes = bad_time ∷ bad_report_body ∷ []

log_listed : (x : LoggedEvent) → (log_cause x ≡ 0 → ⊥) → Among (log_cause x) logging_causes
unfolding log_cause
log_listed x =
    either (λ (n : ℕ). (n ≡ 0 → ⊥) → Among n logging_causes) _ _ _ (λ _ _. first)
    (λ _. either (λ (n : ℕ). (n ≡ 0 → ⊥) → Among n logging_causes) _ _ _ (λ _ _. later first) (λ _ z. absurd (z refl)))

log-kept : (most : Capacities) (t : ℕ) (x : LoggedEvent) (g : Station) → Kept logging_causes g [] (log_call most t x g)
unfolding log_call
log-kept most t x g =
    either (Kept logging_causes g []) _ _ _ (λ h. by_cause logging_causes g [] (log_cause x) (log_listed x (eqb-false _ 0 (not-true _ h)))) (λ _ q h. never cc)

-- ---- every call

act-kept : (since : ℕ → ℕ → ℕ) (most : Capacities) (c : Call) (g : Station) → Kept (causes_of c) g (lent_buffer c) (act since most c g)
unfolding act causes_of lent_buffer request_call frame_call report_call serve_listed
act-kept since most (clock t) g = λ q e. never cc
act-kept since most (logging t e) g = log-kept most t e g
act-kept since most (frame t d a o) g =
    either (Kept frame_causes g []) _ _ _ (λ _. by_cause frame_causes g [] group_destination first)
    (λ _. found-kept frame_causes a (take_request g.timer.now g.log (read_request most.elements o)) [] g (later first) (take_left most.elements g.timer.now g.log o) (find a g.requesters) refl)
act-kept since most (report t a k b) g =
    found-kept report_causes a (give_report since g.identity g.log k b) b g first (λ r. report-left since b r g.identity g.log k) (find a g.requesters) refl
act-kept since most (roam t l) g = rename-kept most g.log l g
act-kept since most (change t l) g = rename-kept most [] l g

pub refused-call : RefusedCall
unfolding step act reading_of
refused-call k most g c r h =
    let p = act-kept k.since most c (tick k (reading_of c) g) r h in
    record { refusal = p.refusal; station = p.state; buffer = p.buffer }

-- ---- setup

setup-kept : (most : Capacities) (i : List ℕ) (l : List Listed) → Kept setup_causes nobody [] (setup most i l)
unfolding setup
setup-kept most i l =
    either (Kept setup_causes nobody []) _ _ _ (λ _. by_cause setup_causes nobody [] bad_requester_list first)
    (λ _. either (Kept setup_causes nobody []) _ _ _ (λ _. by_cause setup_causes nobody [] bad_identity (later first)) (λ _ q e. never cc))

pub refused-setup : RefusedSetup
refused-setup most i l r h = let p = setup-kept most i l r h in record { refusal = p.refusal; station = p.state }
