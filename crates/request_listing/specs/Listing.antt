-- Document 01, "The frame program": the text that lists a request; every line ends in a line feed.
-- Assumes nothing.
use Rattle.std.specs.Prelude.{ℕ, ◌+◌, ◌*◌, not, List, ◌++◌, take, eqb}
use Rattle.laws.specs.Choice.{when◌then◌else◌}
use Rattle.laws.specs.Buffers.{pieces}
use Rattle.octets.specs.declared.numbers.Kind.{Kind}
use Rattle.octets.specs.declared.numbers.Kind.TheVariants.{Event, Diagnostic}
use Rattle.octets.specs.Numbers.{request_action, request_id}
use Rattle.requests.specs.declared.Element.{Element}
use Rattle.requests.specs.Requests.{Request}
use Rattle.requests.specs.Elements.{element_capacity}
use Rattle.texts.specs.Text.{text, field, refusal_line, frame_line, element_head}

-- "limit (for 80 `timeout` and seconds)"
unfoldable pub limit_field : Kind → Element → List ℕ
limit_field Event e = field " limit " e.limit
limit_field Diagnostic e = field " timeout " e.timeout

-- "Then one line each: ID, token, type, limit .., subelements walked"
unfoldable pub request_element_line : Kind → Element → List ℕ
request_element_line kind e =
    element_head (request_id kind) e.token e.ty ++ limit_field kind e ++ field " subs " e.subs ++ text "\n"

abbrev pub request_element_lines : Kind → List Element → List ℕ
request_element_lines kind es = pieces (λ (i : ℕ) (e : Element). request_element_line kind e) 0 es

-- what the frame program prints of a request
unfoldable pub request_listing : Request → List ℕ
request_listing r =
    when not (eqb r.refusal.number 0) then refusal_line r.refusal
    else frame_line (text "frame ") (request_action r.kind) r.dialog r.count ++ request_element_lines r.kind (take r.count r.elements)

-- how many octets the line of an element and the whole have at most
abbrev pub element_most : ℕ
element_most = 56

abbrev pub request_listing_most : ℕ
request_listing_most = 51 + element_most * element_capacity
