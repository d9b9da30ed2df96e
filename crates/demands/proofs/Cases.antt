-- The round trip speaks of something: a gate that logged an event of each kind, a transition across the rollover among them, and its two reports.
-- Assumes nothing.
use Rattle.std.proofs.Common.{ℕ, zero, suc, ◌≡◌, refl, List, [], ◌∷◌, replicate}
use Rattle.laws.specs.Choice.{when◌then◌else◌}
use Rattle.laws.specs.Walk.{repeat_while}
use Rattle.octets.specs.declared.numbers.Kind.{Kind}
use Rattle.octets.specs.declared.numbers.Kind.TheVariants.{Event, Diagnostic}
use Rattle.octets.specs.Fields.{octets_at}
use Rattle.octets.specs.Addresses.{same}
use Rattle.octets.specs.Frames.{frame_kind, frame_cause}
use Rattle.octets.specs.Elements.{piece_end}
use Rattle.octets.specs.Times.{in_range, good_date, good_clock, good_time}
use Rattle.subelements.specs.Subelements.{length_of, body_octet, body_at, whole_step, subelement_step as Subelements-step, walk}
use Rattle.requests.specs.Elements.{subelements_of, bad_token, with_element, own_request_step, element_step, walk_elements}
use Rattle.requests.specs.Internal.{subelements_start}
use Rattle.requests.specs.Requests.{request_of, header_cause, read_request}
use Rattle.events.specs.declared.RsnaEvent.{RsnaEvent}
use Rattle.events.specs.declared.PeerLink.{PeerLink}
use Rattle.events.specs.Transitions.{transition_body}
use Rattle.events.specs.RsnaEvents.{rsna_body}
use Rattle.events.specs.PeerLinks.{peer_link_body}
use Rattle.events.specs.Log.{pushed}
use Rattle.events.specs.Choice.{last_of}
use Rattle.events.specs.Conditions.{asked, transition_meets, rsna_meets, channel_met, peer_link_meets, type_meets, meets_at, meets}
use Rattle.identities.specs.Identity.{stands, pass_row, good_from, good_identity}
use Rattle.reports.specs.Reports.{report_element, event_element}
use Rattle.model.specs.Clocks.{elapsed_at, elapsed_clock}
use Rattle.model.specs.Model.{standard, Station, Call, logging, frame, report, of_length}
use Rattle.model.specs.Requesters.{repeated, bad_listed, bad_list, new_requester, find, put}
use Rattle.model.specs.Dialogs.{replace}
use Rattle.model.specs.Fill.{fill_with, fill, next_frame}
use Rattle.model.specs.Events.{event_treatment, open_events, take_events, next_event_place, gave, without, report_front, treat_front, next_from, next_event, unless_done}
use Rattle.model.specs.Diagnostics.{diagnostic_treatment, is_late, on_time, unless_over, drop_late, diagnostics_of, take_diagnostics, diagnostic_report, next_diagnostic}
use Rattle.model.specs.Stations.{setup, timed, tick_requester, without_late, tick, log_requester, log_entry, log_cause, log_call, with_requester, serve_found, serve_listed, take_kind, take_request, request_call, frame_call, give_events, give_diagnostics, if_outstanding, octets_of, give_kind, give_report, report_call, act, reading_of, step}
use Rattle.model.specs.Runs.{run}
use Rattle.model.specs.Starred.{some_identity, some_console, some_list, some_gate, slow_transition}
use Rattle.laws.specs.Members.{Among, first, later, any}
use Rattle.laws.proofs.Members.{among_none}
use Rattle.laws.proofs.Choice.{never}
use Rattle.events.specs.Loggings.{LoggedEvent, transition, rsna, peer_link, entry_with, Logging, EventLengths}
use Rattle.model.specs.Sound.{logging_call}
use Rattle.demands.specs.StationRoundTrip.{RoundTrip, WellFormed}
use Rattle.demands.proofs.StationRoundTrip.{station_round_trip}

-- an EAP method of one octet, and no RSN element
login : RsnaEvent
login = record {
  times = record { time = 0 ∷ 0 ∷ 0 ∷ 0 ∷ 0 ∷ 1 ∷ 1 ∷ 0 ∷ 0 ∷ []; tsf = replicate 8 0; offset = replicate 10 0; error = replicate 5 0 };
  target = 2 ∷ 1 ∷ 1 ∷ 1 ∷ 1 ∷ 2 ∷ [];
  authentication = 0 ∷ 15 ∷ 172 ∷ 1 ∷ [];
  method = 13 ∷ 9 ∷ 9 ∷ 9 ∷ 9 ∷ 9 ∷ 9 ∷ 9 ∷ [];
  result = 0;
}

link : PeerLink
link = record {
  times = record { time = 0 ∷ 0 ∷ 0 ∷ 0 ∷ 0 ∷ 1 ∷ 1 ∷ 0 ∷ 0 ∷ []; tsf = replicate 8 0; offset = replicate 10 0; error = replicate 5 0 };
  peer = 2 ∷ 1 ∷ 1 ∷ 1 ∷ 1 ∷ 3 ∷ [];
  class = 12;
  channel = 6;
  power = 20;
  connection = 60 ∷ 0 ∷ 0 ∷ [];
  status = 1;
}

calls : List Call
calls =
    logging 10 (transition slow_transition)
    ∷ logging 10 (rsna login [])
    ∷ logging 10 (peer_link link)
    ∷ frame 11 some_console some_console (10 ∷ 0 ∷ 7 ∷ 78 ∷ 3 ∷ 5 ∷ 0 ∷ 4 ∷ 78 ∷ 3 ∷ 6 ∷ 1 ∷ 4 ∷ 78 ∷ 3 ∷ 7 ∷ 2 ∷ 4 ∷ [])
    ∷ frame 12 some_console some_console (10 ∷ 2 ∷ 8 ∷ 80 ∷ 4 ∷ 6 ∷ 1 ∷ 9 ∷ 0 ∷ [])
    ∷ []

zeros : ℕ → List ℕ
zeros zero = []
zeros (suc n) = 0 ∷ zeros n

abbrev gate : Station
gate = some_gate elapsed_clock calls

abbrev after : Kind → ℕ → Type 0
after kind n = (step elapsed_clock standard gate (report 13 some_console kind (zeros 260))).answer ≡ of_length n

-- a transition of 35 octets, a login of 26 and a link of 27; and the identity behind five
both_given : after Event 91 × after Diagnostic 25
unfolding zeros some_identity some_console slow_transition login link calls when◌then◌else◌ repeat_while same octets_at piece_end in_range good_date good_clock good_time whole_step Subelements-step walk subelements_of subelements_start any bad_token with_element own_request_step element_step walk_elements frame_kind frame_cause request_of header_cause read_request pushed length_of body_octet body_at transition_body rsna_body peer_link_body entry_with last_of asked transition_meets rsna_meets channel_met peer_link_meets type_meets meets_at meets stands pass_row good_from good_identity report_element event_element repeated bad_listed bad_list new_requester find put replace fill_with fill next_frame event_treatment open_events take_events next_event_place gave without report_front treat_front next_from next_event unless_done diagnostic_treatment is_late on_time unless_over drop_late diagnostics_of take_diagnostics diagnostic_report next_diagnostic elapsed_at setup timed tick_requester without_late log_requester log_entry log_cause log_call with_requester serve_found serve_listed take_kind take_request request_call frame_call give_events give_diagnostics if_outstanding octets_of give_kind give_report report_call act reading_of step run
both_given = (refl, refl)

-- the logged events have their lengths, so both reports are read back
module _ (x : Logging) where
  is-event : (e : LoggedEvent) → logging_call x ≡ logging 10 e → EventLengths e → EventLengths x.event
  is-event e q w = let t : x.event ≡ e = cc in rw t w

  is-slow : logging_call x ≡ logging 10 (transition slow_transition) → EventLengths x.event
  unfolding slow_transition
  is-slow e = is-event (transition slow_transition) e (record { times = record { time = refl; tsf = refl; offset = refl; error = refl }; fields = record { source = refl; target = refl; signals = refl } })

  is_login : logging_call x ≡ logging 10 (rsna login []) → EventLengths x.event
  unfolding login
  is_login e = is-event (rsna login []) e (record { times = record { time = refl; tsf = refl; offset = refl; error = refl }; fields = record { target = refl; authentication = refl; method = refl } })

  is_link : logging_call x ≡ logging 10 (peer_link link) → EventLengths x.event
  unfolding link
  is_link e = is-event (peer_link link) e (record { times = record { time = refl; tsf = refl; offset = refl; error = refl }; fields = record { peer = refl; connection = refl } })

one_of : {A B : Type 0} {x y : A} {ys : List A} → Among x (y ∷ ys) → (x ≡ y → B) → (Among x ys → B) → B
one_of first f g = f refl
one_of (later m) f g = g m

calls_formed : WellFormed calls
unfolding calls
calls_formed x m =
    one_of m (is-slow x) (λ m₁. one_of m₁ (is_login x) (λ m₂. one_of m₂ (is_link x) (λ m₃. one_of m₃ (λ e. never cc) (λ m₄. one_of m₄ (λ e. never cc) among_none))))

events-read_back : RoundTrip some_identity calls (tick elapsed_clock 13 gate) some_console Event 91 (step elapsed_clock standard gate (report 13 some_console Event (zeros 260))).buffer
events-read_back = station_round_trip standard some_identity some_list calls calls_formed 13 some_console Event (zeros 260) 91 both_given.0

identity-read_back : RoundTrip some_identity calls (tick elapsed_clock 13 gate) some_console Diagnostic 25 (step elapsed_clock standard gate (report 13 some_console Diagnostic (zeros 260))).buffer
identity-read_back = station_round_trip standard some_identity some_list calls calls_formed 13 some_console Diagnostic (zeros 260) 25 both_given.1
