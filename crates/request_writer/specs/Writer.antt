-- Document 01, "Why a call is turned away": "Request writer: 13, 3, then 9, 6 in element order, then 10, with the place the element would
-- have had."
-- Assumes nothing.
use Rattle.std.specs.Prelude.{ℕ, ◌+◌, not, List, [], ◌∷◌, ◌++◌, length, take, ltb, eqb, Result, Ok, Err}
use Rattle.laws.specs.Choice.{when◌then◌else◌}
use Rattle.laws.specs.Buffers.{onto}
use Rattle.octets.specs.declared.numbers.Kind.{Kind}
use Rattle.octets.specs.declared.refusals.Refusal.{Refusal as CodeRefusal}
use Rattle.octets.specs.Refusals.{refused, no_refusal, short_buffer, zero_dialog_token, too_many_elements, bad_element_token, no_element, Refusal, refusal_of}
use Rattle.octets.specs.Numbers.{request_buffer}
use Rattle.requests.specs.declared.Element.{Element}
use Rattle.requests.specs.Elements.{element_capacity, bad_token}
use Rattle.requests.specs.Requests.{lacks_element}
use Rattle.request_writer.specs.Frames.{elements_octets, frame_octets}

-- "the place the element would have had" behind others: behind the three octets of the header, and them
abbrev pub place_behind : Kind → List Element → ℕ
place_behind kind front = 3 + length (elements_octets kind front)

-- the first element, behind those in front, whose token is bad (6)
unfoldable pub token_refusal : Kind → List Element → List Element → Refusal
token_refusal kind front [] = no_refusal
token_refusal kind front (e ∷ es) =
    when bad_token kind front e.token then refused bad_element_token (place_behind kind front)
    else token_refusal kind (front ++ (e ∷ [])) es

-- the writer's answer: refused, with length 0, or the frame's length
pub record Written : Type 0 where
  pub refusal : Refusal
  pub length : ℕ

abbrev pub refused_written : ℕ → ℕ → Written
refused_written number place = record { refusal = refused number place; length = 0 }

abbrev pub written_length : ℕ → Written
written_length n = record { refusal = no_refusal; length = n }

-- the elements, of which the array has eight: each is held to its token; then the ninth (9)
unfoldable pub elements_answer : Kind → List Element → ℕ → Written
elements_answer kind es count =
    let bad = token_refusal kind [] (take count es) in
    when not (eqb bad.number 0) then refused_written bad.number bad.place
    else when ltb element_capacity count then refused_written too_many_elements (place_behind kind es)
    else written_length (place_behind kind (take count es))

-- "Diagnostic Request frame without one" (10)
unfoldable pub frame_answer : Kind → ℕ → Written → Written
frame_answer kind count w =
    when not (eqb w.refusal.number 0) then w
    else when lacks_element kind count then refused_written no_element 0
    else w

-- the answer for a buffer of a length: the length of the frame, or a refusal
unfoldable pub write_answer : Kind → ℕ → List Element → ℕ → ℕ → Written
write_answer kind dialog es count room =
    when ltb room request_buffer then refused_written short_buffer 0
    else when eqb dialog 0 then refused_written zero_dialog_token 0
    else frame_answer kind count (elements_answer kind es count)

-- "The answer is the frame's length; octets past it keep their values, for the request writer too." A refusal writes none.
unfoldable pub write_octets : Kind → ℕ → List Element → ℕ → List ℕ → List ℕ
write_octets kind dialog es count s =
    when eqb (write_answer kind dialog es count (length s)).refusal.number 0 then onto (frame_octets kind dialog (take count es)) s
    else s

-- the answer, and the buffer afterwards
pub record WriteOutcome : Type 0 where
  pub answer : Written
  pub octets : List ℕ

abbrev pub outcome : Written → List ℕ → WriteOutcome
outcome w s = record { answer = w; octets = s }

abbrev pub write_request : Kind → ℕ → List Element → ℕ → List ℕ → WriteOutcome
write_request kind dialog es count s = outcome (write_answer kind dialog es count (length s)) (write_octets kind dialog es count s)

-- ---- an answer as code gives it

abbrev pub written : Result ℕ CodeRefusal → Written
written (Ok n) = written_length n
written (Err r) = record { refusal = refusal_of r; length = 0 }
