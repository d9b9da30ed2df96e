-- The fields of an event, from the octets behind a report's status: its time fields in a form, and the event's body. One decoder for each kind.
-- Assumes nothing.
use Rattle.std.specs.Prelude.{ℕ, List, eqb, length, drop, replicate}
use Rattle.laws.specs.Choice.{when◌then◌else◌}
use Rattle.octets.specs.Fields.{octets_at}
use Rattle.octets.specs.Times.{time_at}
use Rattle.events.specs.declared.times.Times.{Times}
use Rattle.events.specs.Times.{draft_length, time_length, by_form}
use Rattle.events.specs.Transitions.{source_of, target_of, took_of, reason_of, result_of, signals_of}
use Rattle.events.specs.RsnaEvents.{rsn_length, rsna_target_of, authentication_of, method_of, rsna_result_of, rsn_element_of}
use Rattle.events.specs.PeerLinks.{peer_of, class_of, channel_of, power_of, connection_of, peer_status_of}
use Rattle.report_reader.specs.declared.decoders.TransitionReport.{TransitionReport}
use Rattle.report_reader.specs.declared.decoders.RsnaReport.{RsnaReport}
use Rattle.report_reader.specs.declared.decoders.PeerLinkReport.{PeerLinkReport}

-- the draft's time, or the published fields; of what a form does not carry, zeros
abbrev pub draft_times : List ℕ → Times
draft_times time = record { time = time; tsf = replicate 8 0; offset = replicate 10 0; error = replicate 5 0 }

abbrev pub published_times : List ℕ → List ℕ → List ℕ → Times
published_times tsf offset error = record { time = replicate draft_length 0; tsf = tsf; offset = offset; error = error }

-- document 02 (g): "in place of the 9-octet time .. event TSF (8 octets), UTC offset (10) and event time error (5)"
unfoldable pub times_in : ℕ → List ℕ → Times
times_in form o = by_form form (draft_times (time_at o 0)) (published_times (octets_at o 0 8) (octets_at o 8 10) (octets_at o 18 5))

-- behind them stands the event's body
abbrev pub body_in : ℕ → List ℕ → List ℕ
body_in form o = drop (time_length form) o

unfoldable pub transition_in : ℕ → List ℕ → TransitionReport
transition_in form o =
    let body = body_in form o in
    record {
      times = times_in form o;
      source = source_of body;
      target = target_of body;
      took = record { 0 = took_of body };
      reason = reason_of body;
      result = result_of body;
      signals = signals_of body;
    }

-- the RSN element in its 22 places, and how many octets it has: none where it is absent
unfoldable pub rsna_in : ℕ → List ℕ → RsnaReport
rsna_in form o =
    let body = body_in form o in
    record {
      times = times_in form o;
      target = rsna_target_of body;
      authentication = authentication_of body;
      method = method_of body;
      result = rsna_result_of body;
      rsn = octets_at (rsn_element_of body) 0 rsn_length;
      size = length (rsn_element_of body);
    }

unfoldable pub peer_link_in : ℕ → List ℕ → PeerLinkReport
peer_link_in form o =
    let body = body_in form o in
    record {
      times = times_in form o;
      peer = peer_of body;
      class = class_of body;
      channel = channel_of body;
      power = power_of body;
      connection = connection_of body;
      status = peer_status_of body;
    }

-- an event of one of the kinds, by its type
pub data ReportedEvent : Type 0 where
  transition_report : TransitionReport → ReportedEvent
  rsna_report : RsnaReport → ReportedEvent
  peer_link_report : PeerLinkReport → ReportedEvent

unfoldable pub decoded : ℕ → ℕ → List ℕ → ReportedEvent
decoded form ty o =
    when eqb ty 0 then transition_report (transition_in form o)
    else when eqb ty 1 then rsna_report (rsna_in form o)
    else peer_link_report (peer_link_in form o)
