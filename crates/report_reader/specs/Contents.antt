-- What report elements tell, their octets in a form, and what is to be read of them: the statement of the report frames' round trip, for
-- every form. Its proof is in proofs/RoundTrip.antt.
-- Assumes nothing.
use Rattle.std.specs.Prelude.{ℕ, ◌≤◌, ◌≡◌, true, false, List, [], ◌∷◌, ◌++◌, map, length, get_or}
use Rattle.std.proofs.Math.Option.{none, some}
use Rattle.laws.specs.Members.{All}
use Rattle.laws.specs.Buffers.{pieces}
use Rattle.octets.specs.declared.numbers.Kind.{Kind}
use Rattle.octets.specs.declared.numbers.Kind.TheVariants.{Event, Diagnostic}
use Rattle.octets.specs.Numbers.{category, report_action, successful, cancelled, longest_frame}
use Rattle.octets.specs.Refusals.{no_refusal}
use Rattle.octets.specs.Fields.{octets_at}
use Rattle.octets.specs.Addresses.{is_group}
use Rattle.octets.specs.Elements.{Subelement, subelements}
use Rattle.octets.specs.Times.{good_time}
use Rattle.units.specs.Time.{age, tus_of}
use Rattle.subelements.specs.Subelements.{tables, body_at}
use Rattle.events.specs.declared.times.Times.{Times}
use Rattle.events.specs.Times.{is_form, by_form}
use Rattle.events.specs.RsnaEvents.{rsn_length, method_length}
use Rattle.events.specs.Log.{time_of}
use Rattle.events.specs.Loggings.{LoggedEvent, transition, rsna, peer_link, event_type, event_times, event_body, good_rsn_element, Logging, entry_for, EventLengths}
use Rattle.reports.specs.Reports.{report_element, event_element}
use Rattle.report_reader.specs.Decoders.{draft_times, published_times, ReportedEvent, transition_report, rsna_report, peer_link_report}
use Rattle.report_reader.specs.Reader.{plain_element, logged_element, read_report, ElementRead, reading, read_elements}

-- ---- what one element tells

-- token, type and status alone; a token and a logged event, Successful; a token, another type and octets that are kept unread,
-- Successful; token, type and status with subelements
pub data Content : Kind → Type 0 where
  status_only : {kind : Kind} → ℕ → ℕ → ℕ → Content kind
  logged_event : ℕ → Logging → Content Event
  kept_unread : ℕ → ℕ → List ℕ → Content Event
  with_subelements : ℕ → ℕ → ℕ → List Subelement → Content Diagnostic

-- document 01 lets it be told
abbrev pub Valid : (kind : Kind) → Content kind → Type 0
Valid kind (status_only token ty status) = status ≤ cancelled
Valid kind (logged_event token x) = EventLengths x.event × (good_time (event_times x.event).time ≡ true) × (good_rsn_element x.event ≡ true)
Valid kind (kept_unread token ty o) = tables ≤ ty
Valid kind (with_subelements token ty status ps) = status ≤ cancelled

-- its octets in a form, and those of a frame
unfoldable pub content_octets : ℕ → (kind : Kind) → Content kind → List ℕ
content_octets form kind (status_only token ty status) = report_element kind token ty status []
content_octets form kind (logged_event token x) = event_element form token (entry_for x)
content_octets form kind (kept_unread token ty o) = report_element Event token ty successful o
content_octets form kind (with_subelements token ty status ps) = report_element Diagnostic token ty status (subelements ps)

abbrev pub content_frame : ℕ → (kind : Kind) → ℕ → List (Content kind) → List ℕ
content_frame form kind dialog xs = category ∷ report_action kind ∷ dialog ∷ pieces (λ _ x. content_octets form kind x) 0 xs

-- ---- what is to be read of it

-- of an event's time fields those that a form carries; the others are zeros
abbrev pub carried_times : ℕ → Times → Times
carried_times form t = by_form form (draft_times t.time) (published_times t.tsf t.offset t.error)

-- an event's fields, each as logging took it. Of a transition "the age between the two in TUs is the transition time"; of an EAP method the
-- octets of its length
abbrev pub reported_event : ℕ → ℕ → LoggedEvent → ReportedEvent
reported_event form now (transition t) =
    transition_report (record {
      times = carried_times form t.times;
      source = t.source;
      target = t.target;
      took = record { 0 = tus_of (age now t.departure.0) };
      reason = t.reason;
      result = t.result;
      signals = t.signals;
    })
reported_event form now (rsna e rsn) =
    rsna_report (record {
      times = carried_times form e.times;
      target = e.target;
      authentication = e.authentication;
      method = body_at e.method 0 (method_length (get_or e.method 0 0));
      result = e.result;
      rsn = octets_at rsn 0 rsn_length;
      size = length rsn;
    })
reported_event form now (peer_link e) =
    peer_link_report (record {
      times = carried_times form e.times;
      peer = e.peer;
      class = e.class;
      channel = e.channel;
      power = e.power;
      connection = e.connection;
      status = e.status;
    })

abbrev pub reported : ℕ → Logging → ReportedEvent
reported form x = reported_event form x.reading x.event

-- its fields, and the octets behind its status
abbrev pub plain_read : ℕ → ℕ → ℕ → List ℕ → ℕ → ElementRead
plain_read token ty status o subs = record { element = plain_element token ty status (length o) subs; behind = o; event = none }

abbrev pub content_read : ℕ → (kind : Kind) → Content kind → ElementRead
content_read form kind (status_only token ty status) = plain_read token ty status [] 0
content_read form kind (logged_event token x) =
    let o = time_of form (entry_for x) ++ event_body x.reading x.event in
    record { element = logged_element token (event_type x.event) successful (length o); behind = o; event = some (reported form x) }
content_read form kind (kept_unread token ty o) = plain_read token ty successful o 0
content_read form kind (with_subelements token ty status ps) = plain_read token ty status (subelements ps) (length ps)

-- the frame f, sent to a destination d, is accepted by a reader told a form, and has these elements and no others
pub record ReadAs (form : ℕ) (d f : List ℕ) (kind : Kind) (dialog : ℕ) (xs : List (Content kind)) : Type 0 where
  pub report : read_report form d f ≡ record { refusal = no_refusal; kind = kind; dialog = dialog; count = length xs }
  pub elements : read_elements form f kind ≡ reading no_refusal (length f) (map (content_read form kind) xs)

-- ---- the round trip: what is told in a frame of a form is read back of it by a reader told that form

abbrev pub ReportRoundTrip : Type 0
ReportRoundTrip =
    (form : ℕ) → is_form form ≡ true
    → (kind : Kind) (dialog : ℕ) (xs : List (Content kind)) → All (Valid kind) xs → length (content_frame form kind dialog xs) ≤ longest_frame
    → (d : List ℕ) → is_group d ≡ false → ReadAs form d (content_frame form kind dialog xs) kind dialog xs
