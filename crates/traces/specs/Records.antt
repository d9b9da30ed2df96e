-- Records: where each ends, and its fields. The number of a record stands first; its fields follow, least octet first.
-- Assumes nothing.
use Rattle.std.specs.Prelude.{◌≡◌, ℕ, zero, suc, ◌+◌, ◌*◌, Bool, not, ◌||◌, List, [], ◌∷◌, length, get_or, eqb, ltb, leb}
use Rattle.laws.specs.Choice.{when◌then◌else◌}
use Rattle.octets.specs.Numbers.{kind_of}
use Rattle.octets.specs.Fields.{pair_at, octets_at}
use Rattle.octets.specs.Addresses.{address_at}
use Rattle.octets.specs.Times.{time_at}
use Rattle.units.specs.declared.Milliseconds.{Milliseconds}
use Rattle.events.specs.declared.times.Times.{Times}
use Rattle.events.specs.declared.Transition.{Transition}
use Rattle.events.specs.declared.PeerLink.{PeerLink}
use Rattle.traces.specs.declared.places.RecordKind.{RecordKind}
use Rattle.traces.specs.declared.places.RecordKind.TheVariants.{Setup, Clock, LogTransition, TakeFrame, Report, Roam, ChangeNetwork, LogRsna, LogPeerLink, WriteRequest, ReadReport, Explain}
use Rattle.traces.specs.declared.calls.Span.{Span}
use Rattle.traces.specs.declared.calls.SetupCall.{SetupCall}
use Rattle.traces.specs.declared.calls.FrameCall.{FrameCall}
use Rattle.traces.specs.declared.calls.ReportCall.{ReportCall}
use Rattle.traces.specs.declared.calls.MoveCall.{MoveCall}
use Rattle.traces.specs.declared.calls.RsnaCall.{RsnaCall}
use Rattle.traces.specs.declared.calls.WriterCall.{WriterCall}
use Rattle.traces.specs.declared.calls.ReaderCall.{ReaderCall}
use Rattle.traces.specs.declared.calls.ExplainCall.{ExplainCall}
use Rattle.traces.specs.Places.{place_behind_record, bad_length, octets_end, list_end}
use Rattle.traces.specs.Elements.{elements_at}

-- ---- what a record is, by the number that stands in front

abbrev pub number_of : RecordKind → ℕ
number_of Setup = 0
number_of Clock = 1
number_of LogTransition = 2
number_of TakeFrame = 3
number_of Report = 4
number_of Roam = 5
number_of ChangeNetwork = 6
number_of LogRsna = 7
number_of LogPeerLink = 8
number_of WriteRequest = 16
number_of ReadReport = 17
number_of Explain = 18

-- no record has it
abbrev pub IsUnknown : ℕ → Type 0
IsUnknown number = (kind : RecordKind) → number_of kind ≡ number → ⊥

-- ---- where a record's fields end; 0: refused

-- "`04` report call: reading (4), console (6), kind (1: 0 event, 1 diagnostic), buffer length (2), the octet that fills the buffer (1)"
unfoldable pub report_call_end : List ℕ → ℕ → ℕ
report_call_end s at =
    when ltb 1 (get_or s (at + 10) 0) then 0
    else when bad_length s (at + 11) then 0
    else place_behind_record s at 14

-- "action (1: 0 or 2)"
abbrev pub good_action : ℕ → Bool
good_action action = eqb action 0 || eqb action 2

-- "`10` request writer: buffer length (2), filling octet (1), action, dialog token (1), number of elements (1)", and they
unfoldable pub writer_call_end : List ℕ → ℕ → ℕ
writer_call_end s at =
    when bad_length s at then 0
    else when not (good_action (get_or s (at + 3) 0)) then 0
    else (elements_at s (kind_of (get_or s (at + 3) 0)) (get_or s (at + 5) 0) (place_behind_record s at 6)).end

-- the fields of a record of a number, from a position on
unfoldable pub fields_end : List ℕ → ℕ → ℕ → ℕ
fields_end s number at =
    -- "`00` setup: identity length (2), identity, number of addresses (1), addresses (6 each)", and their forms
    when eqb number 0 then list_end s (octets_end s at)
    -- "`01` clock: reading (4)"
    else when eqb number 1 then place_behind_record s at 4
    -- "`02` logging: reading (4), time (9), source (6), target (6), reason (1), result (2), .. (1 each), departure (4)"; "in `02`, `07` and
    -- `08` the time is followed by TSF (8), UTC offset (10) and event time error (5)"
    else when eqb number 2 then place_behind_record s at 59
    -- "`03` frame call: reading (4), destination (6), source (6), length (2), octets"
    else when eqb number 3 then octets_end s (place_behind_record s at 16)
    else when eqb number 4 then report_call_end s at
    -- "`05` move, `06` network change: reading (4), number of addresses (1), addresses"
    else when eqb number 5 then list_end s (place_behind_record s at 4)
    else when eqb number 6 then list_end s (place_behind_record s at 4)
    -- "`07` logs an RSNA event: reading (4), time (9), target (6), authentication type (4), EAP method (8), result (1), RSN element's length
    -- (2), RSN element"
    else when eqb number 7 then octets_end s (place_behind_record s at 55)
    -- "`08` logs a peer link event: reading (4), time (9), peer address (6), regulatory class (1), channel (1), transmit power (1), connection
    -- time (3), peer status (1)"
    else when eqb number 8 then place_behind_record s at 49
    else when eqb number 16 then writer_call_end s at
    -- "`11` report reader: destination (6), length (2), octets", and "begin with the form (1), then the destination"
    else when eqb number 17 then octets_end s (place_behind_record s at 7)
    -- "`12` explains: element's length (2), element, count (2), position (2)"
    else when eqb number 18 then place_behind_record s (octets_end s at) 4
    else 0

-- "A record that is cut, unknown, or has a field out of the range": 0
unfoldable pub record_end : List ℕ → ℕ → ℕ
record_end s at = when leb (length s) at then 0 else fields_end s (get_or s at 0) (at + 1)

-- it ends behind its start
abbrev pub whole_record : List ℕ → ℕ → Bool
whole_record s at = ltb at (record_end s at)

-- ---- the fields; octets past the end of the input are 0

-- where they stand: behind the record's number; past the end of the input, at that end
unfoldable pub fields_of : List ℕ → ℕ → ℕ
fields_of s at = when leb (length s) at then length s else at + 1

unfoldable pub milliseconds_at : List ℕ → ℕ → Milliseconds
milliseconds_at s at = record { 0 = pair_at s at + 65536 * pair_at s (at + 2) }

-- "the time is followed by TSF (8), UTC offset (10) and event time error (5)"
unfoldable pub times_at : List ℕ → ℕ → Times
times_at s at =
    record {
      time = time_at s at;
      tsf = octets_at s (at + 9) 8;
      offset = octets_at s (at + 17) 10;
      error = octets_at s (at + 27) 5;
    }

-- "each address is followed by its form (1)"
abbrev pub requester_at : List ℕ → ℕ → List ℕ
requester_at s at = octets_at s at 7

-- so many, one behind the other
unfoldable pub requesters_at : List ℕ → ℕ → ℕ → List (List ℕ)
requesters_at s zero at = []
requesters_at s (suc n) at = requester_at s at ∷ requesters_at s n (at + 7)

-- "length (2), octets"
unfoldable pub span_at : List ℕ → ℕ → Span
span_at s at = record { from = at + 2; to = at + 2 + pair_at s at }

unfoldable pub setup_fields : List ℕ → ℕ → SetupCall
setup_fields s at =
    let identity = span_at s at in
    record { identity = identity; count = get_or s identity.to 0; list = identity.to + 1 }

unfoldable pub transition_fields : List ℕ → ℕ → Transition
transition_fields s at =
    record {
      times = times_at s (at + 4);
      source = address_at s (at + 36);
      target = address_at s (at + 42);
      reason = get_or s (at + 48) 0;
      result = pair_at s (at + 49);
      signals = octets_at s (at + 51) 4;
      departure = milliseconds_at s (at + 55);
    }

unfoldable pub frame_fields : List ℕ → ℕ → FrameCall
frame_fields s at =
    record {
      reading = milliseconds_at s at;
      destination = address_at s (at + 4);
      source = address_at s (at + 10);
      frame = span_at s (at + 16);
    }

unfoldable pub report_fields : List ℕ → ℕ → ReportCall
report_fields s at =
    record {
      reading = milliseconds_at s at;
      requester = address_at s (at + 4);
      kind = kind_of (get_or s (at + 10) 0);
      length = pair_at s (at + 11);
      fill = get_or s (at + 13) 0;
    }

unfoldable pub move_fields : List ℕ → ℕ → MoveCall
move_fields s at = record { reading = milliseconds_at s at; count = get_or s (at + 4) 0; list = at + 5 }

unfoldable pub rsna_fields : List ℕ → ℕ → RsnaCall
rsna_fields s at =
    record {
      event =
          record {
            times = times_at s (at + 4);
            target = address_at s (at + 36);
            authentication = octets_at s (at + 42) 4;
            method = octets_at s (at + 46) 8;
            result = get_or s (at + 54) 0;
          };
      rsn = span_at s (at + 55);
    }

unfoldable pub peer_link_fields : List ℕ → ℕ → PeerLink
peer_link_fields s at =
    record {
      times = times_at s (at + 4);
      peer = address_at s (at + 36);
      class = get_or s (at + 42) 0;
      channel = get_or s (at + 43) 0;
      power = get_or s (at + 44) 0;
      connection = octets_at s (at + 45) 3;
      status = get_or s (at + 48) 0;
    }

unfoldable pub writer_fields : List ℕ → ℕ → WriterCall
writer_fields s at =
    record {
      length = pair_at s at;
      fill = get_or s (at + 2) 0;
      kind = kind_of (get_or s (at + 3) 0);
      dialog = get_or s (at + 4) 0;
      count = get_or s (at + 5) 0;
      elements = at + 6;
    }

unfoldable pub reader_fields : List ℕ → ℕ → ReaderCall
reader_fields s at = record { form = get_or s at 0; destination = address_at s (at + 1); frame = span_at s (at + 7) }

unfoldable pub explain_fields : List ℕ → ℕ → ExplainCall
explain_fields s at =
    let element = span_at s at in
    record { element = element; count = pair_at s element.to; position = pair_at s (element.to + 2) }
