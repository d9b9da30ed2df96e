-- The theorems about the model, carried to the code by induction over the chain.
-- Assumes nothing.
use Rattle.std.proofs.Common.{ℕ, ◌≡◌, refl, sym, ap, ap₂, ◌∙◌, List, [], ◌∷◌, map}
use Rattle.std.proofs.Math.ListN.{length-map}
use Rattle.laws.specs.Members.{Among, first, later, All, nil, also}
use Rattle.laws.proofs.Members.{among_none}
use Rattle.octets.specs.declared.numbers.Kind.{Kind}
use Rattle.octets.specs.declared.numbers.Kind.TheVariants.{Event, Diagnostic}
use Rattle.events.specs.Loggings.{Logging, EventLengths}
use Rattle.model.specs.Clocks.{elapsed_clock}
use Rattle.model.specs.Model.{standard, Address, Listed, Call, frame, report, roam, change, Result}
use Rattle.model.specs.Model.{Station as ModelStation}
use Rattle.model.specs.Stations.{setup, timed, step}
use Rattle.model.specs.Runs.{run, HandedIn, Always, sender, Reply, reply, to_sender}
use Rattle.model.specs.Independence.{answers, BelowTop}
use Rattle.model.specs.Agreement.{replies}
use Rattle.model.specs.Sound.{logging_call}
use Rattle.model.specs.NewestFirst.{events_given}
use Rattle.model.specs.Waiting.{frames_given, OverWithin}
use Rattle.model.proofs.Refusals.{refused-call, refused-setup}
use Rattle.model.proofs.CallLaws.{step-timer}
use Rattle.model.proofs.Premise.{elapsed_is_true}
use Rattle.model.proofs.NewestFirst.{newest-first}
use Rattle.model.proofs.Waiting.{requests_end_standard}
use Rattle.model.proofs.Order.{frames_unordered, changes-equal-one, move_leaves_no_trace}
use Rattle.model.proofs.Independence.{independent, independent_short-run}
use Rattle.model.proofs.Agreement.{old_and_new_agree}
use Rattle.station.specs.declared.Station.{Station}
use Rattle.station.specs.declared.Outcome.{Outcome}
use Rattle.station.specs.Views.{view, view_outcome}
use Rattle.demands.specs.StationRoundTrip.{WellFormed}
use Rattle.demands.specs.Chains.{Made, Allowed, Chain, none_made, made, SetUp}
use Rattle.demands.specs.Demands.{Total, TotalSetup, call_of, Exact, NeverShowsWrongTime, answered, replied, ShortOfTop, IndependentRequesters, IndependentShortChain, AnswersAsBefore, TimeIsTrue, given_to, GivesNewestFirst, frames_made, CodeOverWithin, RequestsAreOver, MadeInOrder, OrderLeavesNoTrace}
use Rattle.demands.proofs.StationRoundTrip.{station_round_trip, never_shown}

-- ---- what an allowed call gives is what the model gives

module _ {g : Station} {m : Made} (a : Allowed g m) where
  station-is : view m.outcome.station ≡ (step elapsed_clock standard (view g) m.call).station
  unfolding view_outcome
  station-is = ap (λ (x : Result). x.station) a.contract

  answer-is : (view_outcome m.outcome m.buffer).answer ≡ (step elapsed_clock standard (view g) m.call).answer
  answer-is = ap (λ (x : Result). x.answer) a.contract

  buffer-is : m.buffer ≡ (step elapsed_clock standard (view g) m.call).buffer
  unfolding view_outcome
  buffer-is = ap (λ (x : Result). x.buffer) a.contract

-- ---- demand 1

pub total : Total
unfolding view_outcome
total g m r a e =
    let p = refused-call elapsed_clock standard (view g) m.call r (sym (answer-is a) ∙ e) in
    record {
      refusal = p.refusal;
      station = λ k c b. station-is a ∙ p.station ∙ ap (λ (d : Call). (step elapsed_clock standard (view g) d).station) (sym c) ∙ sym (station-is b);
      buffer = buffer-is a ∙ p.buffer;
    }

pub total_setup : TotalSetup
unfolding view_outcome
total_setup i l o r s e =
    let p = refused-setup standard i l r (sym (ap (λ (x : Result). x.answer) s) ∙ e) in
    record { refusal = p.refusal; station = ap (λ (x : Result). x.station) s ∙ p.station }

-- ---- chains

-- the station that a chain leads to is the model's after the same calls
chain_run : {g h : Station} {ms : List Made} → Chain g ms h → view h ≡ run elapsed_clock standard (view g) (map call_of ms)
unfolding run
chain_run none_made = refl
chain_run (made {ms = ms} a c) = chain_run c ∙ ap (λ (x : ModelStation). run elapsed_clock standard x (map call_of ms)) (station-is a)

-- the first from setup
module _ (i : List ℕ) (l : List Listed) (o : Outcome) (s : SetUp i l o) where
  start_is : view o.station ≡ (setup standard i l).station
  unfolding view_outcome
  start_is = ap (λ (x : Result). x.station) s

  run-from-setup : {g : Station} {ms : List Made} → Chain o.station ms g → view g ≡ run elapsed_clock standard (setup standard i l).station (map call_of ms)
  run-from-setup {ms = ms} c = chain_run c ∙ ap (λ (x : ModelStation). run elapsed_clock standard x (map call_of ms)) start_is

handed_in : (c : Call) (x : Logging) → logging_call x ≡ c → HandedIn c → EventLengths x.event
handed_in c x e h = rw (← e) at h

chain_formed : {g h : Station} {ms : List Made} → Chain g ms h → WellFormed (map call_of ms)
chain_formed none_made = λ x m. among_none m
chain_formed (made a c) = λ x m. by x m a.handed_in (chain_formed c)
  where
    by : {d : Call} {ds : List Call} (x : Logging) → Among (logging_call x) (d ∷ ds) → HandedIn d → WellFormed ds → EventLengths x.event
    by x first h w = h
    by x (later m) h w = w x m

-- ---- demand 2

pub exact : Exact
unfolding view_outcome
exact i l o ms g s c m t a kind b n allowed is e =
    let here = run-from-setup i l o s c in
    let there : (d : Call) → d ≡ report t a kind b → step elapsed_clock standard (view g) d ≡ step elapsed_clock standard (run elapsed_clock standard (setup standard i l).station (map call_of ms)) (report t a kind b) = λ d q. rw (q, here) in
    let answer = sym (ap (λ (x : Result). x.answer) (there m.call is)) ∙ sym (answer-is allowed) ∙ e in
    let trip = station_round_trip standard i l (map call_of ms) (chain_formed c) t a kind b n answer in
    rw (here, buffer-is allowed, there m.call is) trip

-- ---- document 02 (g)

pub never_shows_wrong_time : NeverShowsWrongTime
never_shows_wrong_time i l o ms g s c m t a b n allowed is e = never_shown i (map call_of ms) _ a n _ (exact i l o ms g s c m t a Event b n allowed is e)

-- ---- demand 3

chain_answers : {g h : Station} {ms : List Made} → Chain g ms h → map replied ms ≡ answers standard (view g) (map call_of ms)
unfolding answers reply view_outcome
chain_answers none_made = refl
chain_answers (made {g = g} {m = m} {ms = ms} a c) =
    let here : replied m ≡ to_sender (sender m.call) (λ s. reply elapsed_clock standard (view g) m.call) = rw (answer-is a, buffer-is a) in
    let there : map replied ms ≡ answers standard (step elapsed_clock standard (view g) m.call).station (map call_of ms) = chain_answers c ∙ ap (λ (x : ModelStation). answers standard x (map call_of ms)) (station-is a) in
    rw (here, there)

answers-from-setup : (i : List ℕ) (l : List Listed) (o : Outcome) {g : Station} {ms : List Made} → SetUp i l o → Chain o.station ms g
    → map replied ms ≡ answers standard (setup standard i l).station (map call_of ms)
answers-from-setup i l o {ms = ms} s c = chain_answers c ∙ ap (λ (x : ModelStation). answers standard x (map call_of ms)) (start_is i l o s)

-- a call leaves the time that it was made at
chain_below : {g h : Station} {ms : List Made} → Chain g ms h → All ShortOfTop ms → Always BelowTop elapsed_clock standard (view g) (map call_of ms)
unfolding Always timed
chain_below none_made nil = tt
chain_below (made {g = g} {m = m} {ms = ms} a c) (also p ps) =
    (rw (station-is a, step-timer elapsed_clock standard (view g) m.call) at p, rw (station-is a) at (chain_below c ps))

pub independent_requesters : IndependentRequesters
independent_requesters i l o ms g s c h = answers-from-setup i l o s c ∙ independent standard i l (map call_of ms) (rw (start_is i l o s) at (chain_below c h))

pub independent_short_chain : IndependentShortChain
independent_short_chain i l o ms g s c h = answers-from-setup i l o s c ∙ independent_short-run standard i l (map call_of ms) (rw (length-map ms call_of) h)

-- ---- document 02 (c)

chain_replies : {g h : Station} {ms : List Made} → Chain g ms h → map answered ms ≡ replies elapsed_clock standard (view g) (map call_of ms)
unfolding replies reply view_outcome
chain_replies none_made = refl
chain_replies (made {g = g} {m = m} {ms = ms} a c) =
    let here : answered m ≡ reply elapsed_clock standard (view g) m.call = rw (answer-is a, buffer-is a) in
    let there : map answered ms ≡ replies elapsed_clock standard (step elapsed_clock standard (view g) m.call).station (map call_of ms) = chain_replies c ∙ ap (λ (x : ModelStation). replies elapsed_clock standard x (map call_of ms)) (station-is a) in
    rw (here, there)

pub answers_as_before : AnswersAsBefore
answers_as_before i l o ms g s c young =
    chain_replies c ∙ ap (λ (x : ModelStation). replies elapsed_clock standard x (map call_of ms)) (start_is i l o s) ∙ sym (old_and_new_agree standard i l (map call_of ms) young)

pub time-is_true : TimeIsTrue
time-is_true i l o ms g s c t ts apart readings =
    ap (λ (x : ModelStation). x.timer.now) (run-from-setup i l o s c) ∙ elapsed_is_true standard i l (map call_of ms) t ts apart readings

-- ---- document 02 (d)

chain_given : (s : Address) {g h : Station} {ms : List Made} → Chain g ms h → given_to s ms ≡ events_given elapsed_clock standard s (view g) (map call_of ms)
unfolding events_given reply view_outcome
chain_given s none_made = refl
chain_given s (made {g = g} {m = m} {ms = ms} a c) =
    let here : answered m ≡ reply elapsed_clock standard (view g) m.call = rw (answer-is a, buffer-is a) in
    let there : given_to s ms ≡ events_given elapsed_clock standard s (step elapsed_clock standard (view g) m.call).station (map call_of ms) = chain_given s c ∙ ap (λ (x : ModelStation). events_given elapsed_clock standard s x (map call_of ms)) (station-is a) in
    rw (here, there)

pub gives-newest-first : GivesNewestFirst
gives-newest-first g m ms h a c t d s o is opens lets =
    let after : view m.outcome.station ≡ (step elapsed_clock standard (view g) (frame t d s o)).station = station-is a ∙ ap (λ (x : Call). (step elapsed_clock standard (view g) x).station) is in
    rw (chain_given s c, chain_run c, after) (newest-first elapsed_clock standard (view g) t d s o (map call_of ms) opens lets)

-- ---- document 02 (e)

chain_handed : {g h : Station} {ms : List Made} → Chain g ms h → All HandedIn (map call_of ms)
chain_handed none_made = nil
chain_handed (made a c) = also a.handed_in (chain_handed c)

chain_frames : (kind : Kind) (s : Address) {g h : Station} {ms : List Made} → Chain g ms h → frames_made kind s ms ≡ frames_given elapsed_clock standard kind s (view g) (map call_of ms)
unfolding frames_made frames_given view_outcome
chain_frames kind s none_made = refl
chain_frames kind s (made {g = g} {m = m} {ms = ms} a c) =
    let there : frames_made kind s ms ≡ frames_given elapsed_clock standard kind s (step elapsed_clock standard (view g) m.call).station (map call_of ms) = chain_frames kind s c ∙ ap (λ (x : ModelStation). frames_given elapsed_clock standard kind s x (map call_of ms)) (station-is a) in
    rw (answer-is a, there)

code_over-within : (kind : Kind) (bound : ℕ) → OverWithin elapsed_clock standard kind bound → CodeOverWithin kind bound
code_over-within kind bound x = record {
  becomes = λ i l o ms g u c m later h a c' t n d s b is opens.
      let here = run-from-setup i l o u c in
      rw (opened i l (map call_of ms) a here (frame t d s b) is)
      (x.becomes i l (map call_of ms) (map call_of later) (chain_handed c) (chain_handed c') t n d s b (rw here at opens));
  while-it-stays = λ i l o ms g u c m later h a c' t n d s b is opens stays.
      let here = run-from-setup i l o u c in
      let after = opened i l (map call_of ms) a here (frame t d s b) is in
      rw (chain_frames kind s c', after)
      (x.while-it-stays i l (map call_of ms) (map call_of later) (chain_handed c) (chain_handed c') t n d s b (rw here at opens) (rw after at stays));
}
  where
    opened : (i : List ℕ) (l : List Listed) (cs : List Call) {g : Station} {m : Made} → Allowed g m → view g ≡ run elapsed_clock standard (setup standard i l).station cs → (y : Call) → m.call ≡ y
        → view m.outcome.station ≡ (step elapsed_clock standard (run elapsed_clock standard (setup standard i l).station cs) y).station
    opened i l cs a here y is = station-is a ∙ ap₂ (λ (g : ModelStation) (c : Call). (step elapsed_clock standard g c).station) here is

pub requests_are_over : RequestsAreOver
requests_are_over = record {
  events = code_over-within Event 512 (requests_end_standard.events elapsed_clock);
  diagnostics = code_over-within Diagnostic 8 (requests_end_standard.diagnostics elapsed_clock);
}

-- ---- document 02 (j)

-- one call, and the second of two, as the model has them
made_one : {g : Station} {x : Made} → Allowed g x → (c : Call) → x.call ≡ c
    → (view x.outcome.station ≡ (step elapsed_clock standard (view g) c).station) × (answered x ≡ reply elapsed_clock standard (view g) c)
unfolding reply view_outcome
made_one {g} {x} a c e = (
  station-is a ∙ ap (λ (d : Call). (step elapsed_clock standard (view g) d).station) e,
  (let here : answered x ≡ reply elapsed_clock standard (view g) x.call = rw (answer-is a, buffer-is a) in here ∙ ap (reply elapsed_clock standard (view g)) e),
)

made-second : {g : Station} {x y : Made} → MadeInOrder g x y → (c d : Call) → x.call ≡ c → y.call ≡ d
    → (view y.outcome.station ≡ run elapsed_clock standard (view g) (c ∷ d ∷ [])) × (answered y ≡ reply elapsed_clock standard (step elapsed_clock standard (view g) c).station d)
unfolding run
made-second u c d e f =
    let x = made_one u.first c e in
    let y = made_one u.second d f in
    (y.0 ∙ ap (λ (h : ModelStation). (step elapsed_clock standard h d).station) x.0, y.1 ∙ ap (λ (h : ModelStation). reply elapsed_clock standard h d) x.0)

pub order_leaves_no_trace : OrderLeavesNoTrace
unfolding run reply view_outcome
order_leaves_no_trace = record {
  frames = λ g x y y' x' u v t d e a b o p n ex ex' ey ey'.
      let c = frame t d a o in
      let c' = frame t e b p in
      let m = frames_unordered standard (view g) t d e a b o p n in
      record {
        station = (made-second u c c' ex ey).0 ∙ m.same-station ∙ sym (made-second v c' c ey' ex').0;
        one = (made_one u.first c ex).1 ∙ sym m.same_first ∙ sym (made-second v c' c ey' ex').1;
        other = (made-second u c c' ex ey).1 ∙ m.same_second ∙ sym (made_one v.first c' ey').1;
      };
  changes = λ g x y u t l ex ey.
      let c = change t l in
      let m = changes-equal-one standard (view g) t l in (
        (made-second u c c ex ey).0 ∙ ap (λ (r : Result). r.station) m ∙ sym (made_one u.first c ex).0,
        (made-second u c c ex ey).1 ∙ ap (λ (r : Result). record { answer = r.answer; buffer = r.buffer }) m ∙ sym (made_one u.first c ex).1,
      );
  move = λ g x y alone u v t l m ex ey ez.
      let c = roam t l in
      let d = change t m in
      let z = made_one v d ez in
      let w = move_leaves_no_trace standard (view g) t l m in (
        (made-second u c d ex ey).1 ∙ w.same-reply ∙ sym z.1,
        λ e. (made-second u c d ex ey).0 ∙ w.same-station (sym (ap (λ (r : Reply). r.answer) z.1) ∙ e) ∙ sym z.0,
      );
}
