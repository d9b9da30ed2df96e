-- Document 01: "Reading a report frame, given its destination: 11, 1, 2, then each element 4, 5, 17, then 14 or 7."; document 02 (g): it is
-- told the form of the time fields, 0 draft or 1 published.
-- Assumes nothing.
use Rattle.std.specs.Prelude.{ℕ, ◌+◌, ◌-◌, Bool, true, false, not, ◌&&◌, ◌||◌, List, [], ◌∷◌, ◌++◌, length, get_or, ltb, eqb, Option as CodeOption, Some, None, is_some, Result, Ok, Err}
use Rattle.std.proofs.Math.Option.{Option, none, some}
use Rattle.laws.specs.Choice.{when◌then◌else◌}
use Rattle.laws.specs.Walk.{repeat_while}
use Rattle.octets.specs.declared.numbers.Kind.{Kind}
use Rattle.octets.specs.declared.numbers.Kind.TheVariants.{Event as EventKind, Diagnostic}
use Rattle.octets.specs.Numbers.{report_action, report_id, successful, cancelled}
use Rattle.octets.specs.declared.refusals.Refusal.{Refusal as CodeRefusal}
use Rattle.octets.specs.Refusals.{refused, no_refusal, element_past_end, short_element, bad_report_body, bad_time, group_destination, bad_requester_list, Refusal, refusal_of}
use Rattle.octets.specs.Fields.{octets_at}
use Rattle.octets.specs.Addresses.{is_group}
use Rattle.octets.specs.Frames.{frame_kind, frame_cause}
use Rattle.octets.specs.Elements.{piece_end}
use Rattle.octets.specs.Times.{good_time, time_at}
use Rattle.subelements.specs.Subelements.{tables, walk, Subelements}
use Rattle.events.specs.Times.{is_form, time_length, by_form}
use Rattle.events.specs.Transitions.{transition_length}
use Rattle.events.specs.RsnaEvents.{method_offset, rsn_length, rsna_length}
use Rattle.events.specs.PeerLinks.{peer_link_length}
use Rattle.report_reader.specs.declared.Element.{Element}
use Rattle.report_reader.specs.declared.Cursor.{Cursor}
use Rattle.report_reader.specs.declared.Found.{Found}
use Rattle.report_reader.specs.declared.Step.{Step as CodeStep}
use Rattle.report_reader.specs.declared.Report.{Report as CodeReport}
use Rattle.report_reader.specs.Decoders.{ReportedEvent, decoded}

-- ---- one element

-- the fields of an element with no event, and with one
abbrev pub plain_element : ℕ → ℕ → ℕ → ℕ → ℕ → Element
plain_element token ty status n subs = record { token = token; ty = ty; status = status; length = n; subs = subs; logged = false }

abbrev pub logged_element : ℕ → ℕ → ℕ → ℕ → Element
logged_element token ty status n = record { token = token; ty = ty; status = status; length = n; subs = 0; logged = true }

-- what stands at a position: refused, passed over, or an element of the frame's own ID with the position of what stands behind its status;
-- and the position behind it
pub record Step : Type 0 where
  pub refusal : Refusal
  pub found : Bool
  pub element : Element
  pub rest : ℕ
  pub next : Cursor

abbrev pub refused_step : ℕ → ℕ → Step
refused_step number place =
    record { refusal = refused number place; found = false; element = plain_element 0 0 0 0 0; rest = 0; next = record { at = 0 } }

abbrev pub skipped_step : ℕ → Step
skipped_step next =
    record { refusal = no_refusal; found = false; element = plain_element 0 0 0 0 0; rest = 0; next = record { at = next } }

abbrev pub found_step : Element → ℕ → ℕ → Step
found_step element rest next =
    record { refusal = no_refusal; found = true; element = element; rest = rest; next = record { at = next } }

-- n octets of body: "token, type, status", and what is behind them
unfoldable pub plain_step : List ℕ → ℕ → ℕ → ℕ → Step
plain_step s at n subs =
    found_step (plain_element (get_or s (at + 2) 0) (get_or s (at + 3) 0) (get_or s (at + 4) 0) (n - 3) subs) (at + 5) (at + 2 + n)

unfoldable pub logged_step : List ℕ → ℕ → ℕ → Step
logged_step s at n =
    found_step (logged_element (get_or s (at + 2) 0) (get_or s (at + 3) 0) (get_or s (at + 4) 0) (n - 3)) (at + 5) (at + 2 + n)

-- "event body not 3 with status 1 to 4" (17)
unfoldable pub bare_step : List ℕ → ℕ → ℕ → Step
bare_step s at n = when eqb n 3 then plain_step s at n 0 else refused_step bad_report_body at

-- the octets of a report body with an event whose body has so many: token, type, status, the time fields in a form, and they
abbrev pub report_length : ℕ → ℕ → ℕ
report_length form n = 3 + time_length form + n

-- of an RSNA event, without its RSN element and with it
abbrev pub is_rsna_length : ℕ → ℕ → ℕ → Bool
is_rsna_length form first n = eqb n (report_length form (rsna_length first)) || eqb n (report_length form (rsna_length first + rsn_length))

-- has the body of an element of n octets the length of its event type? An RSNA event's goes by the first octet of its EAP method
unfoldable pub is_event_length : ℕ → List ℕ → ℕ → ℕ → ℕ → Bool
is_event_length form s at n ty =
    when eqb ty 0 then eqb n (report_length form transition_length)
    else when eqb ty 1 then is_rsna_length form (get_or s (at + 5 + time_length form + method_offset) 0) n
    else eqb n (report_length form peer_link_length)

-- the draft's time has its rule (14); the published fields are "carried unread"
unfoldable pub good_time_at : ℕ → List ℕ → ℕ → Bool
good_time_at form s at = by_form form (good_time (time_at s at)) true

-- "event type 0 Successful not 3 or 33" (17), and so for each type with a table; document 02 (g): "and a body of the other form's length
-- with 17"; then its time (14)
unfoldable pub typed_step : ℕ → List ℕ → ℕ → ℕ → Step
typed_step form s at n =
    when eqb n 3 then plain_step s at n 0
    else when not (is_event_length form s at n (get_or s (at + 3) 0)) then refused_step bad_report_body at
    else when not (good_time_at form s (at + 5)) then refused_step bad_time at
    else logged_step s at n

-- "For status 0 of other event types the rest is kept unread."
unfoldable pub event_step : ℕ → List ℕ → ℕ → ℕ → Step
event_step form s at n =
    when not (eqb (get_or s (at + 4) 0) successful) then bare_step s at n
    else when ltb (get_or s (at + 3) 0) tables then typed_step form s at n
    else plain_step s at n 0

-- "A Diagnostic Report has subelements instead, with any status.": their edges (7)
unfoldable pub walked_step : List ℕ → ℕ → ℕ → Subelements → Step
walked_step s at n w =
    when not (eqb w.refusal.number 0) then refused_step w.refusal.number w.refusal.place
    else plain_step s at n w.count

unfoldable pub diagnostic_step : List ℕ → ℕ → ℕ → Step
diagnostic_step s at n = walked_step s at n (walk s tables (at + 5) (at + 2 + n))

abbrev pub kind_step : ℕ → Kind → List ℕ → ℕ → ℕ → Step
kind_step form EventKind s at n = event_step form s at n
kind_step form Diagnostic s at n = diagnostic_step s at n

-- "Body under 3" (5), "Report status over 4" (17)
unfoldable pub own_report_step : ℕ → List ℕ → Kind → ℕ → ℕ → Step
own_report_step form s kind at n =
    when ltb n 3 then refused_step short_element at
    else when ltb cancelled (get_or s (at + 4) 0) then refused_step bad_report_body at
    else kind_step form kind s at n

-- "Element header or body passes the end" (4); "only its own element ID counts .. others are passed over"
unfoldable pub step_at : ℕ → List ℕ → Kind → ℕ → Step
step_at form s kind at =
    when eqb (piece_end s at (length s)) 0 then refused_step element_past_end at
    else when not (eqb (get_or s at 0) (report_id kind)) then skipped_step (piece_end s at (length s))
    else own_report_step form s kind at (get_or s (at + 1) 0)

-- what the cursor hands out. Document 02 (g): "It refuses a form number other than 0 or 1 with 15 (a reader before all else)"
unfoldable pub cursor_step : ℕ → List ℕ → Kind → ℕ → Step
cursor_step form s kind at = when not (is_form form) then refused_step bad_requester_list 0 else step_at form s kind at

-- ---- the elements of a frame, as the cursor hands them out, from the front to the end or to the first refusal

-- an element's fields, the octets behind its status, and the event that they are, where they are one
pub record ElementRead : Type 0 where
  pub element : Element
  pub behind : List ℕ
  pub event : Option ReportedEvent

abbrev pub element_read : ℕ → Element → List ℕ → ElementRead
element_read form e o = record { element = e; behind = o; event = when e.logged then some (decoded form e.ty o) else none }

abbrev pub element_read_at : ℕ → List ℕ → Step → ElementRead
element_read_at form s t = element_read form t.element (octets_at s t.rest t.element.length)

pub record Reading : Type 0 where
  pub refusal : Refusal
  pub at : ℕ
  pub elements : List ElementRead

abbrev pub reading : Refusal → ℕ → List ElementRead → Reading
reading refusal at elements = record { refusal = refusal; at = at; elements = elements }

-- behind one more element; a refused reading has nothing else
unfoldable pub gathered : ℕ → List ℕ → Reading → Step → Reading
gathered form s w t =
    when not (eqb t.refusal.number 0) then reading t.refusal 0 []
    else when t.found then reading no_refusal t.next.at (w.elements ++ (element_read_at form s t ∷ []))
    else reading no_refusal t.next.at w.elements

abbrev pub unread : ℕ → Reading → Bool
unread end w = eqb w.refusal.number 0 && ltb w.at end

unfoldable pub read_step : ℕ → List ℕ → Kind → Reading → Reading
read_step form s kind w = gathered form s w (step_at form s kind w.at)

unfoldable pub read_elements : ℕ → List ℕ → Kind → Reading
read_elements form s kind = repeat_while (length s) (unread (length s)) (read_step form s kind) (reading no_refusal 3 [])

-- ---- a frame

-- refused, or what it reports, its dialog token and the number of its elements
pub record Report : Type 0 where
  pub refusal : Refusal
  pub kind : Kind
  pub dialog : ℕ
  pub count : ℕ

-- a refused frame: everything but the refusal is fixed
abbrev pub refused_report : ℕ → ℕ → Report
refused_report number place = record { refusal = refused number place; kind = EventKind; dialog = 0; count = 0 }

-- the reading's refusal, or the report
unfoldable pub report_of : Kind → ℕ → Reading → Report
report_of kind dialog w =
    when not (eqb w.refusal.number 0) then refused_report w.refusal.number w.refusal.place
    else record { refusal = no_refusal; kind = kind; dialog = dialog; count = length w.elements }

-- the kind that a frame is read as
abbrev pub report_kind : List ℕ → Kind
report_kind s = frame_kind s (report_action Diagnostic)

-- its form (15), then "11, 1, 2, then each element": "Group destination" (11), then the frame's head
unfoldable pub read_report : ℕ → List ℕ → List ℕ → Report
read_report form destination s =
    when not (is_form form) then refused_report bad_requester_list 0
    else when is_group destination then refused_report group_destination 0
    else when not (eqb (frame_cause s (report_action (report_kind s))) 0) then refused_report (frame_cause s (report_action (report_kind s))) 0
    else report_of (report_kind s) (get_or s 2 0) (read_elements form s (report_kind s))

-- ---- steps and reports as code gives them

-- what is found, or where nothing is
abbrev pub found_or_none : CodeOption Found → Found
found_or_none None = record { element = plain_element 0 0 0 0 0; rest = 0 }
found_or_none (Some f) = f

abbrev pub step_given : CodeOption Found → Cursor → Step
step_given found next =
    record { refusal = no_refusal; found = is_some found; element = (found_or_none found).element; rest = (found_or_none found).rest; next = next }

abbrev pub step_read : Result CodeStep CodeRefusal → Step
step_read (Ok t) = step_given t.found t.next
step_read (Err r) = record { refusal = refusal_of r; found = false; element = plain_element 0 0 0 0 0; rest = 0; next = record { at = 0 } }

abbrev pub report_read : Result CodeReport CodeRefusal → Report
report_read (Ok r) = record { refusal = no_refusal; kind = r.kind; dialog = r.dialog; count = r.count }
report_read (Err r) = record { refusal = refusal_of r; kind = EventKind; dialog = 0; count = 0 }
