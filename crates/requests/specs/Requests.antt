-- Document 01, "Why a call is turned away": a request frame whole, "1, 2, 3, then elements from the front, .. and 10 at the end".
-- Assumes nothing.
use Rattle.std.specs.Prelude.{ℕ, Bool, false, not, List, [], ◌∷◌, get_or, eqb, Result, Ok, Err}
use Rattle.laws.specs.Choice.{when◌then◌else◌}
use Rattle.octets.specs.declared.numbers.Kind.{Kind}
use Rattle.octets.specs.declared.numbers.Kind.TheVariants.{Event, Diagnostic}
use Rattle.octets.specs.declared.refusals.Refusal.{Refusal as CodeRefusal}
use Rattle.octets.specs.Refusals.{Refusal, refused, refusal_of, no_refusal, bad_frame_length, bad_header, zero_dialog_token, element_past_end, short_element, bad_element_token, bad_subelement, repeated_subelement, too_many_elements, no_element}
use Rattle.octets.specs.Numbers.{request_action}
use Rattle.octets.specs.Frames.{frame_kind, frame_cause}
use Rattle.requests.specs.declared.Element.{Element}
use Rattle.requests.specs.declared.Request.{Request as CodeRequest}
use Rattle.requests.specs.Elements.{blank_elements, ElementWalk, walk_elements}

-- the causes of the table that speak of a request frame
abbrev pub request_causes : List ℕ
request_causes =
    bad_frame_length ∷ bad_header ∷ zero_dialog_token ∷ element_past_end ∷ short_element ∷ bad_element_token ∷ bad_subelement ∷ repeated_subelement ∷ too_many_elements ∷ no_element ∷ []

-- what a reader finds of a frame: refused, or a request of the first count elements; the places past them are blank
pub record Request : Type 0 where
  pub refusal : Refusal
  pub kind : Kind
  pub dialog : ℕ
  pub count : ℕ
  pub elements : List Element

-- a refused request: everything but the refusal is fixed
abbrev pub refused_request : ℕ → ℕ → Request
refused_request number place = record { refusal = refused number place; kind = Event; dialog = 0; count = 0; elements = blank_elements }

-- "Diagnostic Request frame without one"
abbrev pub lacks_element : Kind → ℕ → Bool
lacks_element Event count = false
lacks_element Diagnostic count = eqb count 0

-- the walk's refusal, or 10, or the request
unfoldable pub request_of : Kind → ℕ → ElementWalk → Request
request_of kind dialog w =
    when not (eqb w.refusal.number 0) then refused_request w.refusal.number w.refusal.place
    else when lacks_element kind w.count then refused_request no_element 0
    else record { refusal = no_refusal; kind = kind; dialog = dialog; count = w.count; elements = w.elements }

-- the kind that a frame is read as
abbrev pub request_kind : List ℕ → Kind
request_kind s = frame_kind s (request_action Diagnostic)

-- 1 or 2 by the frame's head, or "Request dialog token 0" (3); 0: not refused
unfoldable pub header_cause : List ℕ → Kind → ℕ
header_cause s kind =
    when not (eqb (frame_cause s (request_action kind)) 0) then frame_cause s (request_action kind)
    else when eqb (get_or s 2 0) 0 then zero_dialog_token
    else 0

-- "1, 2, 3, then elements from the front, .. and 10 at the end", of at most so many elements
unfoldable pub read_request : ℕ → List ℕ → Request
read_request most s =
    when not (eqb (header_cause s (request_kind s)) 0) then refused_request (header_cause s (request_kind s)) 0
    else request_of (request_kind s) (get_or s 2 0) (walk_elements most s (request_kind s))

-- ---- a request as code gives it

abbrev pub accepted_request : CodeRequest → Request
accepted_request q = record { refusal = no_refusal; kind = q.kind; dialog = q.dialog; count = q.count; elements = q.elements }

abbrev pub request_read : Result CodeRequest CodeRefusal → Request
request_read (Ok q) = accepted_request q
request_read (Err r) = record { refusal = refusal_of r; kind = Event; dialog = 0; count = 0; elements = blank_elements }
