-- Document 02 (g): "A reader told one form and given the other must never show a wrong time; for each kind the body lengths of the two forms
-- differ." The proofs are in proofs/Forms.antt.
-- Assumes nothing.
use Rattle.std.specs.Prelude.{ℕ, ◌≤◌, ◌≡◌, Bool, true, false, List, ◌++◌, length, drop}
use Rattle.std.proofs.Math.Option.{none}
use Rattle.laws.specs.Members.{All, any}
use Rattle.octets.specs.declared.numbers.Kind.{Kind}
use Rattle.octets.specs.declared.numbers.Kind.TheVariants.{Event, Diagnostic}
use Rattle.octets.specs.Numbers.{longest_frame}
use Rattle.octets.specs.Refusals.{bad_report_body}
use Rattle.octets.specs.Addresses.{is_group}
use Rattle.events.specs.Times.{is_form}
use Rattle.events.specs.Loggings.{LoggedEvent, event_type, event_body, good_rsn_element, EventLengths, Logging}
use Rattle.report_reader.specs.Reader.{refused_step, report_length, is_event_length, step_at, ElementRead, read_elements, read_report}
use Rattle.report_reader.specs.Contents.{Content, status_only, logged_event, kept_unread, with_subelements, Valid, content_octets, content_frame}

-- one form and the other
pub record Differ (form told : ℕ) : Type 0 where
  pub one : is_form form ≡ true
  pub other : is_form told ≡ true
  pub differ : form ≡ told → ⊥

-- "for each kind the body lengths of the two forms differ": whatever else stands in the frame, a body of one form is none of the other
abbrev pub LengthsDiffer : Type 0
LengthsDiffer =
    (form told : ℕ) → Differ form told
    → (reading : ℕ) (x : LoggedEvent) → EventLengths x → good_rsn_element x ≡ true
    → (s : List ℕ) (at : ℕ) → is_event_length told s at (report_length form (length (event_body reading x))) (event_type x) ≡ false

-- "and a body of the other form's length with 17": where an event stands in one form, a reader told the other refuses it
abbrev pub OtherFormRefused : Type 0
OtherFormRefused =
    (form told : ℕ) → Differ form told
    → (token : ℕ) (x : Logging) → Valid Event (logged_event token x)
    → (s : List ℕ) (at : ℕ) (r : List ℕ) → drop at s ≡ content_octets form Event (logged_event token x) ++ r
    → step_at told s Event at ≡ refused_step bad_report_body at

-- "A reader told one form and given the other must never show a wrong time": it shows no event at all
abbrev pub NoEvent : ElementRead → Type 0
NoEvent x = x.event ≡ none

abbrev pub OtherFormNeverShown : Type 0
OtherFormNeverShown =
    (form told : ℕ) → Differ form told
    → (dialog : ℕ) (xs : List (Content Event)) → All (Valid Event) xs
    → All NoEvent (read_elements told (content_frame form Event dialog xs) Event).elements

-- is an event told?
abbrev pub tells_event : {kind : Kind} → Content kind → Bool
tells_event (status_only token ty status) = false
tells_event (logged_event token x) = true
tells_event (kept_unread token ty o) = false
tells_event (with_subelements token ty status ps) = false

-- said more exactly: a frame in which one is told is refused by 17
abbrev pub OtherFrameRefused : Type 0
OtherFrameRefused =
    (form told : ℕ) → Differ form told
    → (dialog : ℕ) (xs : List (Content Event)) → All (Valid Event) xs → any tells_event xs ≡ true → length (content_frame form Event dialog xs) ≤ longest_frame
    → (d : List ℕ) → is_group d ≡ false → (read_report told d (content_frame form Event dialog xs)).refusal.number ≡ bad_report_body

-- and all else is the same in both forms: diagnostics are read the same; where no event is told, contents and frames have the same octets, and
-- are read the same
pub record Same (form told : ℕ) : Type 0 where
  pub diagnostics : (s : List ℕ) → read_elements form s Diagnostic ≡ read_elements told s Diagnostic
  pub octets : (kind : Kind) (x : Content kind) → tells_event x ≡ false → content_octets form kind x ≡ content_octets told kind x
  pub frames : (kind : Kind) (dialog : ℕ) (xs : List (Content kind)) → any tells_event xs ≡ false → content_frame form kind dialog xs ≡ content_frame told kind dialog xs
  pub events : (dialog : ℕ) (xs : List (Content Event)) → All (Valid Event) xs → any tells_event xs ≡ false
      → read_elements form (content_frame form Event dialog xs) Event ≡ read_elements told (content_frame form Event dialog xs) Event

abbrev pub SameInBothForms : Type 0
SameInBothForms = (form told : ℕ) → Same form told
