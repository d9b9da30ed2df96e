-- Document 02 (e) speaks of something, by computation: requests of both kinds that stay through a first frame and are over with the second,
-- and one that is over with its header_only frame.
-- Assumes nothing.
use Rattle.std.proofs.Common.{ℕ, ◌≡◌, refl, List, [], ◌∷◌, ◌++◌, replicate}
use Rattle.std.proofs.Math.Option.{none, some}
use Rattle.laws.specs.Choice.{when◌then◌else◌}
use Rattle.laws.specs.Members.{any}
use Rattle.laws.specs.Walk.{repeat_while}
use Rattle.laws.proofs.Choice.{never}
use Rattle.octets.specs.declared.numbers.Kind.{Kind}
use Rattle.octets.specs.declared.numbers.Kind.TheVariants.{Event, Diagnostic}
use Rattle.octets.specs.Fields.{octets_at}
use Rattle.octets.specs.Addresses.{same}
use Rattle.octets.specs.Frames.{frame_kind, frame_cause}
use Rattle.octets.specs.Elements.{piece_end}
use Rattle.octets.specs.Times.{in_range, good_date, good_clock, good_time}
use Rattle.subelements.specs.Subelements.{whole_step, subelement_step as Subelements-step, walk}
use Rattle.requests.specs.Elements.{subelements_of, bad_token, with_element, own_request_step, element_step, walk_elements}
use Rattle.requests.specs.Requests.{request_of, header_cause, read_request}
use Rattle.events.specs.Transitions.{transition_body}
use Rattle.events.specs.Log.{pushed}
use Rattle.events.specs.Choice.{last_of}
use Rattle.events.specs.Loggings.{transition, entry_with}
use Rattle.events.specs.Conditions.{asked, transition_meets, type_meets, meets_at, meets}
use Rattle.identities.specs.Identity.{stands, pass_row, good_from, good_identity}
use Rattle.reports.specs.Reports.{report_element, event_element}
use Rattle.model.specs.Clocks.{elapsed_at, elapsed_clock}
use Rattle.model.specs.Model.{Capacities, standard, Station, Call, logging, frame, report}
use Rattle.model.specs.Requesters.{repeated, bad_listed, bad_list, new_requester, find, put}
use Rattle.model.specs.Outstanding.{dialog_of, dialog_in, outstanding_dialog}
use Rattle.model.specs.Dialogs.{replace}
use Rattle.model.specs.Fill.{fill_with, fill, next_frame}
use Rattle.model.specs.Events.{event_treatment, open_events, take_events, next_event_place, gave, without, report_front, treat_front, next_from, next_event, unless_done}
use Rattle.model.specs.Diagnostics.{diagnostic_treatment, is_late, on_time, unless_over, drop_late, diagnostics_of, take_diagnostics, diagnostic_report, next_diagnostic}
use Rattle.model.specs.Stations.{setup, timed, tick_requester, without_late, log_requester, log_entry, log_cause, log_call, with_requester, serve_found, serve_listed, take_kind, take_request, request_call, frame_call, give_events, give_diagnostics, if_outstanding, octets_of, give_kind, give_report, report_call, act, reading_of, step}
use Rattle.model.specs.Runs.{run, EachCall}
use Rattle.model.specs.Starred.{some_identity, some_console, some_list, some_gate, slow_transition}
use Rattle.model.specs.Waiting.{Opens, Stays, frames_in, frames_for, frames_given}

abbrev asks : List ℕ → Call
asks o = frame 20 some_console some_console o

abbrev reports : Kind → Call
reports kind = report 21 some_console kind (replicate 260 0)

-- a frame opens a request with the dialog token 7, which stays through a report call that gives a frame, and is over at the end of another
record TwoFrames (kind : Kind) (g : Station) (o : List ℕ) : Type 0 where
  opens : Opens elapsed_clock standard kind some_console 7 g 20 some_console o
  stays : let h = (step elapsed_clock standard g (asks o)).station in
      EachCall (Stays elapsed_clock standard kind some_console 7) elapsed_clock standard h (reports kind ∷ [])
  given : let h = (step elapsed_clock standard g (asks o)).station in
      frames_given elapsed_clock standard kind some_console h (reports kind ∷ reports kind ∷ []) ≡ 2
  over : let h = (step elapsed_clock standard g (asks o)).station in
      outstanding_dialog kind some_console (run elapsed_clock standard h (reports kind ∷ reports kind ∷ [])) ≡ none

-- two elements, for four transitions each: seven reports of 35 octets fit a frame
events : TwoFrames Event
    (some_gate elapsed_clock (logging 10 (transition slow_transition) ∷ logging 11 (transition slow_transition) ∷ logging 12 (transition slow_transition) ∷ logging 13 (transition slow_transition) ∷ []))
    (10 ∷ 0 ∷ 7 ∷ 78 ∷ 3 ∷ 5 ∷ 0 ∷ 9 ∷ 78 ∷ 3 ∷ 6 ∷ 0 ∷ 9 ∷ [])
unfolding some_identity some_console slow_transition when◌then◌else◌ repeat_while same octets_at piece_end in_range good_date good_clock good_time whole_step Subelements-step walk subelements_of any bad_token with_element own_request_step element_step walk_elements frame_kind frame_cause request_of header_cause read_request pushed transition_body entry_with last_of asked transition_meets type_meets meets_at meets stands pass_row good_from good_identity report_element event_element repeated bad_listed bad_list new_requester find put dialog_of dialog_in replace fill_with fill next_frame event_treatment open_events take_events next_event_place gave without report_front treat_front next_from next_event unless_done drop_late elapsed_at setup timed tick_requester without_late log_requester log_entry log_cause log_call with_requester serve_found serve_listed take_kind take_request request_call frame_call give_events if_outstanding give_kind give_report report_call act reading_of step run EachCall frames_in frames_for frames_given
events = record { opens = record { was-not = λ e. never cc; is-now = refl }; stays = ((refl, refl), tt); given = refl; over = refl }

-- two elements, for an identity of 167 octets each
long_identity : List ℕ
long_identity = 13 ∷ 3 ∷ 1 ∷ 2 ∷ 3 ∷ 11 ∷ 151 ∷ (replicate 151 0 ++ (12 ∷ 1 ∷ 5 ∷ 14 ∷ 1 ∷ 6 ∷ 9 ∷ 1 ∷ 7 ∷ []))

diagnostics : TwoFrames Diagnostic (setup standard long_identity some_list).station (10 ∷ 2 ∷ 7 ∷ 80 ∷ 4 ∷ 5 ∷ 1 ∷ 9 ∷ 0 ∷ 80 ∷ 4 ∷ 6 ∷ 1 ∷ 9 ∷ 0 ∷ [])
unfolding long_identity some_console when◌then◌else◌ repeat_while same octets_at piece_end whole_step Subelements-step walk subelements_of any bad_token with_element own_request_step element_step walk_elements frame_kind frame_cause request_of header_cause read_request stands pass_row good_from good_identity report_element repeated bad_listed bad_list new_requester find put dialog_of dialog_in replace fill_with fill next_frame diagnostic_treatment is_late on_time unless_over drop_late diagnostics_of take_diagnostics diagnostic_report next_diagnostic elapsed_at setup timed tick_requester without_late with_requester serve_found serve_listed take_kind take_request request_call frame_call give_diagnostics if_outstanding octets_of give_kind give_report report_call act reading_of step run EachCall frames_in frames_for frames_given
diagnostics = record { opens = record { was-not = λ e. never cc; is-now = refl }; stays = ((refl, refl), tt); given = refl; over = refl }

-- an event request with no element: one frame, header_only; on a gate of one event and one element that is the bound
tiny : Capacities
tiny = record { events = 1; requesters = 1; elements = 1 }

header_only : let h = (step elapsed_clock tiny (setup tiny some_identity some_list).station (asks (10 ∷ 0 ∷ 7 ∷ []))).station in
    (outstanding_dialog Event some_console h ≡ some 7)
    × (frames_given elapsed_clock tiny Event some_console h (reports Event ∷ []) ≡ 1)
    × (outstanding_dialog Event some_console (run elapsed_clock tiny h (reports Event ∷ [])) ≡ none)
unfolding tiny some_identity some_console when◌then◌else◌ repeat_while same octets_at piece_end walk_elements frame_kind frame_cause request_of header_cause read_request stands pass_row good_from good_identity repeated bad_listed bad_list new_requester find put any dialog_of dialog_in replace fill_with fill next_frame open_events take_events next_from next_event unless_done drop_late elapsed_at setup timed tick_requester without_late with_requester serve_found serve_listed take_kind take_request request_call frame_call give_events if_outstanding give_kind give_report report_call act reading_of step run frames_in frames_for frames_given
header_only = (refl, refl, refl)
