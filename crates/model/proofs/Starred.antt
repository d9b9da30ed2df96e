-- The starred cases hold, by computation.
-- Assumes nothing.
use Rattle.std.proofs.Common.{refl}
use Rattle.laws.specs.Members.{any}
use Rattle.laws.specs.Choice.{when◌then◌else◌}
use Rattle.laws.specs.Walk.{repeat_while}
use Rattle.octets.specs.Fields.{octets_at}
use Rattle.octets.specs.Addresses.{same}
use Rattle.octets.specs.Frames.{frame_kind, frame_cause}
use Rattle.octets.specs.Elements.{piece_end}
use Rattle.subelements.specs.Subelements.{length_of, body_octet, body_at, whole_step, subelement_step as Subelements-step, walk}
use Rattle.requests.specs.Elements.{subelements_of, bad_token, with_element, own_request_step, element_step, walk_elements}
use Rattle.requests.specs.Requests.{request_of, header_cause, read_request}
use Rattle.events.specs.Transitions.{transition_body}
use Rattle.events.specs.Loggings.{entry_with}
use Rattle.events.specs.Conditions.{asked, transition_meets, type_meets, meets_at, meets}
use Rattle.identities.specs.Identity.{stands, pass_row, good_from, good_identity}
use Rattle.model.specs.Clocks.{elapsed_at}
use Rattle.model.specs.Requesters.{repeated, bad_listed, bad_list, new_requester, find, put}
use Rattle.model.specs.Dialogs.{replace}
use Rattle.model.specs.Diagnostics.{diagnostic_treatment, is_late, on_time, unless_over, drop_late, diagnostics_of, take_diagnostics}
use Rattle.model.specs.Stations.{setup, timed, tick_requester, without_late, with_requester, serve_found, serve_listed, take_kind, take_request, request_call, frame_call, act, reading_of, step}
use Rattle.model.specs.Runs.{run}
use Rattle.model.specs.Starred.{cases, outstanding, some_identity, some_console, waits, slow_transition, slow, least_transition, equal, case_holds, all_hold, Starred}

pub starred : Starred
unfolding all_hold case_holds cases outstanding some_identity some_console waits slow_transition slow least_transition equal when◌then◌else◌ repeat_while piece_end whole_step Subelements-step walk subelements_of any bad_token with_element own_request_step element_step walk_elements frame_kind frame_cause request_of header_cause read_request length_of body_octet body_at transition_body entry_with asked transition_meets type_meets meets_at meets stands pass_row good_from good_identity elapsed_at repeated bad_listed bad_list new_requester find put replace diagnostic_treatment is_late on_time unless_over drop_late diagnostics_of take_diagnostics setup timed tick_requester without_late with_requester serve_found serve_listed take_kind take_request request_call frame_call act reading_of step run same octets_at
starred = refl
