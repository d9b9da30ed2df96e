-- What the records of a trace call, in the model's words: the station after each, and how far they reach; and what `explain` prints.
-- Assumes nothing.
use Rattle.std.specs.Prelude.{ℕ, ◌-◌, List, [], eqb, ltb, length, get_or, take, drop, replicate}
use Rattle.laws.specs.Choice.{when◌then◌else◌}
use Rattle.laws.specs.Walk.{repeat_while}
use Rattle.units.specs.Time.{elapsed_since}
use Rattle.events.specs.Loggings.{transition, rsna, peer_link}
use Rattle.explanations.specs.Explanations.{explanation, Explanation}
use Rattle.model.specs.Clocks.{elapsed_clock}
use Rattle.model.specs.Model.{standard, Listed, Station, Result, Call, clock, logging, frame, report, roam, change}
use Rattle.model.specs.Stations.{setup, step}
use Rattle.report_listing.specs.Listing.{frame_listing}
use Rattle.traces.specs.declared.calls.Span.{Span}
use Rattle.traces.specs.Places.{longest_length}
use Rattle.traces.specs.Lines.{explanation_line, trace_refusal_line}
use Rattle.traces.specs.Records.{record_end, whole_record, fields_of, milliseconds_at, requesters_at, setup_fields, transition_fields, frame_fields, report_fields, move_fields, rsna_fields, peer_link_fields, reader_fields, explain_fields}

-- ---- the call of a record

-- the octets of a span, as far as the input has them
abbrev pub spanned : List ℕ → Span → List ℕ
spanned s p = take (p.to - p.from) (drop p.from s)

-- so many requesters, as a record counts them in one octet
abbrev pub list_at : List ℕ → ℕ → ℕ → List Listed
list_at s n at = take n (requesters_at s 255 at)

abbrev pub setup_at : List ℕ → ℕ → Result
setup_at s at = let c = setup_fields s (fields_of s at) in setup standard (spanned s c.identity) (list_at s c.count c.list)

abbrev pub clock_at : List ℕ → ℕ → Call
clock_at s at = clock (milliseconds_at s (fields_of s at)).0

abbrev pub log_transition_at : List ℕ → ℕ → Call
log_transition_at s at = logging (milliseconds_at s (fields_of s at)).0 (transition (transition_fields s (fields_of s at)))

abbrev pub frame_at : List ℕ → ℕ → Call
frame_at s at = let c = frame_fields s (fields_of s at) in frame c.reading.0 c.destination c.source (spanned s c.frame)

-- "buffer length (2), the octet that fills the buffer (1)"
abbrev pub report_at : List ℕ → ℕ → Call
report_at s at = let c = report_fields s (fields_of s at) in report c.reading.0 c.requester c.kind (take c.length (replicate longest_length c.fill))

abbrev pub roam_at : List ℕ → ℕ → Call
roam_at s at = let c = move_fields s (fields_of s at) in roam c.reading.0 (list_at s c.count c.list)

abbrev pub change_at : List ℕ → ℕ → Call
change_at s at = let c = move_fields s (fields_of s at) in change c.reading.0 (list_at s c.count c.list)

abbrev pub log_rsna_at : List ℕ → ℕ → Call
log_rsna_at s at = let c = rsna_fields s (fields_of s at) in logging (milliseconds_at s (fields_of s at)).0 (rsna c.event (spanned s c.rsn))

abbrev pub log_peer_link_at : List ℕ → ℕ → Call
log_peer_link_at s at = logging (milliseconds_at s (fields_of s at)).0 (peer_link (peer_link_fields s (fields_of s at)))

-- "`12` explains: element's length (2), element, count (2), position (2); the log is the present gate's as it stands"
abbrev pub explained_at : List ℕ → ℕ → Station → Explanation
explained_at s at g = let c = explain_fields s (fields_of s at) in explanation elapsed_since g.log (spanned s c.element) c.count c.position

-- "`11` report reader: destination (6), length (2), octets", and "begin with the form (1), then the destination"
abbrev pub listed_at : List ℕ → ℕ → List ℕ
listed_at s at = let c = reader_fields s (fields_of s at) in frame_listing c.form c.destination (spanned s c.frame)

-- ---- a trace

-- the station after a record, by its number; the console's records and an explanation touch no station
unfoldable pub station_after : List ℕ → ℕ → Station → Station
station_after s at g =
    when eqb (get_or s at 0) 0 then (setup_at s at).station
    else when eqb (get_or s at 0) 1 then (step elapsed_clock standard g (clock_at s at)).station
    else when eqb (get_or s at 0) 2 then (step elapsed_clock standard g (log_transition_at s at)).station
    else when eqb (get_or s at 0) 3 then (step elapsed_clock standard g (frame_at s at)).station
    else when eqb (get_or s at 0) 4 then (step elapsed_clock standard g (report_at s at)).station
    else when eqb (get_or s at 0) 5 then (step elapsed_clock standard g (roam_at s at)).station
    else when eqb (get_or s at 0) 6 then (step elapsed_clock standard g (change_at s at)).station
    else when eqb (get_or s at 0) 7 then (step elapsed_clock standard g (log_rsna_at s at)).station
    else when eqb (get_or s at 0) 8 then (step elapsed_clock standard g (log_peer_link_at s at)).station
    else g

-- how far the records reach, and the station after them
pub record Replay : Type 0 where
  pub at : ℕ
  pub station : Station

abbrev pub replayed : ℕ → Station → Replay
replayed at g = record { at = at; station = g }

unfoldable pub replay_step : List ℕ → Replay → Replay
replay_step s w = replayed (record_end s w.at) (station_after s w.at w.station)

-- the records from the front, while they are whole, on a station that nobody set up
unfoldable pub replay_trace : List ℕ → Replay
replay_trace s = repeat_while (length s) (λ (w : Replay). whole_record s w.at) (replay_step s) (replayed 0 (setup standard [] []).station)

-- ---- the program `explain`

-- "at most 262,144 octets in all"
abbrev pub longest_trace : ℕ
longest_trace = 262144

-- the octets from one position to another
abbrev pub between : ℕ → ℕ → List ℕ → List ℕ
between from to s = spanned s (record { from = from; to = to })

-- "runs the trace without printing and prints that line; a trace that is refused prints `trace refused at P`, P counted in the trace". The
-- record stands at the front of s
unfoldable pub explained_line : List ℕ → List ℕ → List ℕ
explained_line s trace =
    let w = replay_trace (between 0 longest_trace trace) in
    when ltb w.at (length trace) then trace_refusal_line w.at else explanation_line (explained_at s 0 w.station)

-- of an input, which has the record's number in front: "reads the same fields and then a trace"; "if its own fields are cut or the length is
-- over 4,096 it prints `trace refused at 0`"
unfoldable pub explain_line : List ℕ → List ℕ
explain_line s = when eqb (record_end s 0) 0 then trace_refusal_line 0 else explained_line s (between (record_end s 0) (length s) s)
