-- The text that lists a report frame, as the program `report` prints it; every line ends in a line feed.
-- Assumes nothing.
use Rattle.std.specs.Prelude.{ℕ, ◌+◌, ◌*◌, ◌-◌, not, List, [], ◌++◌, length, get_or, take, drop, eqb, ltb}
use Rattle.std.proofs.Math.Option.{Option, none, some}
use Rattle.laws.specs.Choice.{when◌then◌else◌}
use Rattle.laws.specs.Buffers.{pieces}
use Rattle.octets.specs.declared.numbers.Kind.{Kind}
use Rattle.octets.specs.declared.numbers.Kind.TheVariants.{Event as EventKind, Diagnostic}
use Rattle.octets.specs.Numbers.{report_action, report_id, successful, longest_frame}
use Rattle.octets.specs.Refusals.{refused, bad_frame_length, bad_requester_list}
use Rattle.octets.specs.Fields.{pair_at}
use Rattle.octets.specs.Addresses.{address_at}
use Rattle.texts.specs.Text.{text, decimal, hexed, hexes, field, refusal_line, frame_line, element_head}
use Rattle.subelements.specs.Subelements.{tables}
use Rattle.events.specs.declared.times.Times.{Times}
use Rattle.events.specs.Times.{is_form, by_form}
use Rattle.report_reader.specs.declared.decoders.TransitionReport.{TransitionReport}
use Rattle.report_reader.specs.declared.decoders.RsnaReport.{RsnaReport}
use Rattle.report_reader.specs.declared.decoders.PeerLinkReport.{PeerLinkReport}
use Rattle.report_reader.specs.declared.Element.{Element}
use Rattle.report_reader.specs.Decoders.{ReportedEvent, transition_report, rsna_report, peer_link_report}
use Rattle.report_reader.specs.Reader.{read_report, ElementRead, read_elements, Report}

-- ---- an event

-- a time field behind a text; all ones means unknown: `?`
unfoldable pub time_field : List ℕ → ℕ → ℕ → ℕ → List ℕ
time_field front digits ones n = front ++ (when eqb n ones then text "?" else decimal digits n)

-- ` time 2026-12-31`
unfoldable pub date_text : ℕ → ℕ → ℕ → List ℕ
date_text year month day = time_field (text " time ") 4 65535 year ++ time_field (text "-") 2 255 month ++ time_field (text "-") 2 255 day

-- ` 23:59:59.999`
unfoldable pub clock_text : ℕ → ℕ → ℕ → ℕ → List ℕ
clock_text hour minute second ms =
    time_field (text " ") 2 255 hour ++ time_field (text ":") 2 255 minute ++ time_field (text ":") 2 255 second ++ time_field (text ".") 3 65535 ms

-- a time has "milliseconds 2, second, minute, hour, day, month, year 2"
unfoldable pub time_text : List ℕ → List ℕ
time_text time =
    date_text (pair_at time 7) (get_or time 6 0) (get_or time 5 0) ++ clock_text (get_or time 4 0) (get_or time 3 0) (get_or time 2 0) (pair_at time 0)

-- octets behind a name, as they stand: `0201ff`
unfoldable pub bare_text : List ℕ → List ℕ → List ℕ
bare_text name o = name ++ hexes [] o

-- ` tsf 0102030405060708`, and so the UTC offset and the event time error
unfoldable pub published_text : Times → List ℕ
published_text t = bare_text (text " tsf ") t.tsf ++ bare_text (text " offset ") t.offset ++ bare_text (text " error ") t.error

-- the time fields in a form
unfoldable pub times_text : ℕ → Times → List ℕ
times_text form t = by_form form (time_text t.time) (published_text t)

-- octets behind a name, with colons between them: `02:01:01:01:01:01`
unfoldable pub colon_text : List ℕ → List ℕ → List ℕ
colon_text name o = hexed name (get_or o 0 0) ++ hexes (text ":") (drop 1 o)

unfoldable pub signals_text : List ℕ → List ℕ
signals_text signals =
    field " source-rcpi " (get_or signals 0 0) ++ field " source-rsni " (get_or signals 1 0) ++ field " target-rcpi " (get_or signals 2 0) ++ field " target-rsni " (get_or signals 3 0)

unfoldable pub transition_text : ℕ → TransitionReport → List ℕ
transition_text form e =
    times_text form e.times ++ colon_text (text " source ") e.source ++ colon_text (text " target ") e.target
    ++ field " transition " e.took.0
    ++ field " reason " e.reason
    ++ field " result " e.result
    ++ signals_text e.signals

-- "for EAP 254 ` vendor XX:XX:XX vendor-type XX:XX:XX:XX`": three octets behind the first, and four
unfoldable pub vendor_text : List ℕ → List ℕ
vendor_text method =
    when eqb (get_or method 0 0) 254 then colon_text (text " vendor ") (take 3 (drop 1 method)) ++ colon_text (text " vendor-type ") (drop 4 method)
    else []

-- "where an RSN element is there, ` rsn HEX`"
unfoldable pub rsn_text : List ℕ → ℕ → List ℕ
rsn_text rsn size = when eqb size 0 then [] else bare_text (text " rsn ") (take size rsn)

unfoldable pub rsna_text : ℕ → RsnaReport → List ℕ
rsna_text form e =
    times_text form e.times ++ colon_text (text " target ") e.target ++ colon_text (text " authentication ") e.authentication
    ++ field " eap " (get_or e.method 0 0)
    ++ vendor_text e.method
    ++ field " result " e.result
    ++ rsn_text e.rsn e.size

-- the connection time in seconds, three octets
unfoldable pub peer_link_text : ℕ → PeerLinkReport → List ℕ
peer_link_text form e =
    times_text form e.times ++ colon_text (text " peer ") e.peer
    ++ field " class " e.class
    ++ field " channel " e.channel
    ++ field " power " e.power
    ++ field " connection " (pair_at e.connection 0 + 65536 * get_or e.connection 2 0)
    ++ field " peer-status " e.status

unfoldable pub event_text : ℕ → ReportedEvent → List ℕ
event_text form (transition_report e) = transition_text form e
event_text form (rsna_report e) = rsna_text form e
event_text form (peer_link_report e) = peer_link_text form e

-- ---- an element

-- "For status 0 of other event types the rest is kept unread."
unfoldable pub unread_text : ℕ → ℕ → List ℕ
unread_text ty n = when ltb ty tables then [] else field " rest " n

-- what an event report has behind its status: the event, or how many octets are kept unread
unfoldable pub event_tail : ℕ → Option ReportedEvent → Element → List ℕ
event_tail form (some x) e = event_text form x
event_tail form none e = when eqb e.status successful then unread_text e.ty e.length else []

unfoldable pub tail_text : ℕ → Kind → ElementRead → List ℕ
tail_text form EventKind x = event_tail form x.event x.element
tail_text form Diagnostic x = field " subs " x.element.subs

unfoldable pub head_text : Kind → Element → List ℕ
head_text kind e = element_head (report_id kind) e.token e.ty ++ field " status " e.status

-- `element 79 token 5 type 0 status 0`, and what the element has behind its status
unfoldable pub report_element_line : ℕ → Kind → ElementRead → List ℕ
report_element_line form kind x = head_text kind x.element ++ tail_text form kind x ++ text "\n"

-- ---- a frame

abbrev pub report_element_lines : ℕ → Kind → List ElementRead → List ℕ
report_element_lines form kind es = pieces (λ (i : ℕ) (x : ElementRead). report_element_line form kind x) 0 es

-- a report that was read of a frame: the refusal, or the first line and one line for each element that the cursor hands out
unfoldable pub report_listing : ℕ → List ℕ → Report → List ℕ
report_listing form s r =
    when not (eqb r.refusal.number 0) then refusal_line r.refusal
    else frame_line (text "report ") (report_action r.kind) r.dialog r.count ++ report_element_lines form r.kind (read_elements form s r.kind).elements

abbrev pub frame_listing : ℕ → List ℕ → List ℕ → List ℕ
frame_listing form destination s = report_listing form s (read_report form destination s)

-- the program's input: the form, six octets of destination, then the frame. An octet that is not there is 0, a form
unfoldable pub input_listing : List ℕ → List ℕ
input_listing input =
    when not (is_form (get_or input 0 0)) then refusal_line (refused bad_requester_list 0)
    else when ltb (length input) 7 then refusal_line (refused bad_frame_length 0)
    else frame_listing (get_or input 0 0) (address_at input 1) (drop 7 input)

-- how many octets a listing has at most: the first line, and 14 for each octet that the elements take of a frame
abbrev pub report_listing_most : ℕ
report_listing_most = 52 + 14 * (longest_frame - 3)
