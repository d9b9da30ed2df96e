-- Document 01, "Frames and elements": the octets of a request frame.
-- Assumes nothing.
use Rattle.std.specs.Prelude.{ℕ, List, [], ◌∷◌, get_or, take, eqb}
use Rattle.laws.specs.Choice.{when◌then◌else◌}
use Rattle.laws.specs.Buffers.{pieces}
use Rattle.octets.specs.declared.numbers.Kind.{Kind}
use Rattle.octets.specs.declared.numbers.Kind.TheVariants.{Event, Diagnostic}
use Rattle.octets.specs.Numbers.{category, request_action, request_id}
use Rattle.octets.specs.Fields.{low, high}
use Rattle.octets.specs.Elements.{framed}
use Rattle.subelements.specs.declared.Condition.{Condition}
use Rattle.subelements.specs.Subelements.{length_of}
use Rattle.requests.specs.declared.Element.{Element}

-- how many octets of a condition are written in a request for an event type: the length of the type's table for its ID, by its first octet;
-- none where it is absent, or where the table has no length
unfoldable pub condition_length : ℕ → ℕ → Condition → ℕ
condition_length ty id c = when c.present then length_of ty id (get_or c.octets 0 0) else 0

-- one with octets is a subelement
unfoldable pub condition_octets : ℕ → ℕ → Condition → List ℕ
condition_octets ty id c =
    when eqb (condition_length ty id c) 0 then []
    else framed id (take (condition_length ty id c) c.octets)

-- "Writers put subelements in rising ID order"
abbrev pub filter_octets : ℕ → List Condition → List ℕ
filter_octets ty filter = pieces (condition_octets ty) 0 filter

-- "token, type, response limit, subelements"; "token, type, timeout in seconds (2 octets), subelements"; "diagnostic requests .. are written
-- .. with none"
unfoldable pub element_body : Kind → Element → List ℕ
element_body Event e = e.token ∷ e.ty ∷ e.limit ∷ filter_octets e.ty e.filter
element_body Diagnostic e = e.token ∷ e.ty ∷ low e.timeout ∷ high e.timeout ∷ []

unfoldable pub element_octets : Kind → Element → List ℕ
element_octets kind e = framed (request_id kind) (element_body kind e)

abbrev pub elements_octets : Kind → List Element → List ℕ
elements_octets kind es = pieces (λ (i : ℕ) (e : Element). element_octets kind e) 0 es

-- "Octets 0, 1, 2: category 10, action, dialog token. .. Elements follow"
unfoldable pub frame_octets : Kind → ℕ → List Element → List ℕ
frame_octets kind dialog es = category ∷ request_action kind ∷ dialog ∷ elements_octets kind es
