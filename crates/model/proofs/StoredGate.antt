-- The stored gate, by computation.
-- Assumes nothing.
use Rattle.std.proofs.Common.{refl}
use Rattle.laws.specs.Members.{any}
use Rattle.laws.specs.Choice.{when◌then◌else◌}
use Rattle.laws.specs.Walk.{repeat_while}
use Rattle.octets.specs.Fields.{octets_at}
use Rattle.octets.specs.Addresses.{same}
use Rattle.octets.specs.Frames.{frame_kind, frame_cause}
use Rattle.octets.specs.Elements.{piece_end}
use Rattle.octets.specs.Times.{in_range, good_date, good_clock, good_time}
use Rattle.subelements.specs.Subelements.{whole_step, subelement_step as Subelements-step, walk}
use Rattle.requests.specs.Elements.{subelements_of, bad_token, with_element, own_request_step, element_step, walk_elements}
use Rattle.requests.specs.Requests.{request_of, header_cause, read_request}
use Rattle.events.specs.Log.{pushed}
use Rattle.events.specs.Choice.{counted, count_of}
use Rattle.events.specs.Loggings.{entry_with}
use Rattle.events.specs.Conditions.{is_near, recent_in}
use Rattle.identities.specs.Identity.{stands, pass_row, good_from, good_identity}
use Rattle.model.specs.Clocks.{elapsed_at}
use Rattle.model.specs.Requesters.{repeated, bad_listed, bad_list, new_requester, find, put}
use Rattle.model.specs.Dialogs.{replace}
use Rattle.model.specs.Diagnostics.{diagnostic_treatment, is_late, on_time, unless_over, drop_late, diagnostics_of, take_diagnostics}
use Rattle.model.specs.Stations.{setup, timed, tick_requester, without_late, log_entry, log_cause, log_call, with_requester, serve_found, serve_listed, take_kind, take_request, request_call, frame_call, act, reading_of, step}
use Rattle.model.specs.Runs.{run}
use Rattle.model.specs.Starred.{outstanding, some_identity, some_console, waits, slow_transition}
use Rattle.model.specs.StoredGate.{stored_log, StoredGate}

pub stored_gate : StoredGate
unfolding stored_log outstanding some_identity some_console waits slow_transition when◌then◌else◌ repeat_while piece_end in_range good_date good_clock good_time whole_step Subelements-step walk subelements_of any bad_token with_element own_request_step element_step walk_elements frame_kind frame_cause request_of header_cause read_request pushed counted count_of entry_with is_near recent_in stands pass_row good_from good_identity elapsed_at repeated bad_listed bad_list new_requester find put replace diagnostic_treatment is_late on_time unless_over drop_late diagnostics_of take_diagnostics setup timed tick_requester without_late log_entry log_cause log_call with_requester serve_found serve_listed take_kind take_request request_call frame_call act reading_of step run same octets_at
stored_gate = record { counted-before = refl; counted-now = refl; waited-before = refl; waits-no-more = refl }
