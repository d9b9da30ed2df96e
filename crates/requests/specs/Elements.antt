-- Document 01, "Frames and elements": the elements of a request frame; causes 4, 9, 5 and 6 of the table, in this order.
-- Assumes nothing.
use Rattle.std.specs.Prelude.{ℕ, ◌+◌, Bool, true, false, not, ◌&&◌, List, [], length, get_or, set, take, replicate, ltb, leb, eqb}
use Rattle.laws.specs.Members.{any}
use Rattle.laws.specs.Choice.{when◌then◌else◌}
use Rattle.laws.specs.Walk.{repeat_while}
use Rattle.octets.specs.declared.numbers.Kind.{Kind}
use Rattle.octets.specs.declared.numbers.Kind.TheVariants.{Event, Diagnostic}
use Rattle.octets.specs.Refusals.{refused, no_refusal, element_past_end, too_many_elements, short_element, bad_element_token, Refusal}
use Rattle.octets.specs.Numbers.{request_id}
use Rattle.octets.specs.Fields.{pair_at}
use Rattle.octets.specs.Elements.{piece_end}
use Rattle.subelements.specs.Subelements.{no_filter, walked, tables, walk, Subelements}
use Rattle.requests.specs.declared.Element.{Element}

-- ---- the fields of one element, whose header stands at a position

-- "Event Request body: token, type, response limit"; "Diagnostic Request body: token, type, timeout in seconds (2 octets)"
abbrev pub least_body : Kind → ℕ
least_body Event = 3
least_body Diagnostic = 4

abbrev pub limit_at : List ℕ → Kind → ℕ → ℕ
limit_at s Event at = get_or s (at + 4) 0
limit_at s Diagnostic at = 0

abbrev pub timeout_at : List ℕ → Kind → ℕ → ℕ
timeout_at s Event at = 0
timeout_at s Diagnostic at = pair_at s (at + 4)

-- the type whose table an element's subelements are held to: "In diagnostics the subelements are walked for their edges only."
abbrev pub table_of : Kind → ℕ → ℕ
table_of Event ty = ty
table_of Diagnostic ty = tables

-- "other event bodies are not read past the limit"
unfoldable pub subelements_of : List ℕ → Kind → ℕ → ℕ → Subelements
subelements_of s Event at end = when ltb (get_or s (at + 3) 0) tables then walk s (get_or s (at + 3) 0) (at + 5) end else walked no_refusal end
subelements_of s Diagnostic at end = walk s tables (at + 6) end

abbrev pub element_of : List ℕ → Kind → ℕ → Subelements → Element
element_of s kind at subs = record {
  token = get_or s (at + 2) 0;
  ty = get_or s (at + 3) 0;
  limit = limit_at s kind at;
  subs = subs.count;
  timeout = timeout_at s kind at;
  filter = subs.filter;
}

-- ---- the walk

-- "Ninth request element": a frame has at most eight
abbrev pub element_capacity : ℕ
element_capacity = 8

abbrev pub blank_element : Element
blank_element = record { token = 0; ty = 0; limit = 0; subs = 0; timeout = 0; filter = no_filter }

abbrev pub blank_elements : List Element
blank_elements = replicate element_capacity blank_element

-- what stands past the elements' end: the default that the logic reads there
abbrev pub past_elements : Element
past_elements = record { token = 0; ty = 0; limit = 0; subs = 0; timeout = 0; filter = [] }

-- whether one of the elements has the token
abbrev pub has_token : List Element → ℕ → Bool
has_token es token = any (λ e. eqb e.token token) es

-- "or event token 0"
abbrev pub zero_token : Kind → ℕ → Bool
zero_token Event token = eqb token 0
zero_token Diagnostic token = false

-- "Token repeated among a frame's requests, or event token 0", behind some elements
unfoldable pub bad_token : Kind → List Element → ℕ → Bool
bad_token kind es token = when zero_token kind token then true else has_token es token

-- how far a walk has come: refused, or the next position, and the elements so far: the first count; the other places are blank
pub record ElementWalk : Type 0 where
  pub refusal : Refusal
  pub at : ℕ
  pub count : ℕ
  pub elements : List Element

-- a walk with no element yet; a refused walk has nothing else
abbrev pub started : Refusal → ℕ → ElementWalk
started r at = record { refusal = r; at = at; count = 0; elements = blank_elements }

abbrev pub refused_elements : ℕ → ℕ → ElementWalk
refused_elements number place = started (refused number place) 0

-- "others are passed over"
abbrev pub passed : ElementWalk → ℕ → ElementWalk
passed w end = record { refusal = no_refusal; at = end; count = w.count; elements = w.elements }

-- the refusal of the element's subelements, or one element more
unfoldable pub with_element : List ℕ → Kind → ElementWalk → ℕ → Subelements → ElementWalk
with_element s kind w end subs =
    when not (eqb subs.refusal.number 0) then refused_elements subs.refusal.number subs.refusal.place
    else record { refusal = no_refusal; at = end; count = w.count + 1; elements = set w.elements w.count (element_of s kind w.at subs) }

-- a whole element of the frame's own ID, which ends at end: "9, 5, 6, then its subelements"; of at most so many elements
unfoldable pub own_request_step : ℕ → List ℕ → Kind → ElementWalk → ℕ → ElementWalk
own_request_step most s kind w end =
    when leb most w.count then refused_elements too_many_elements w.at
    else when ltb (get_or s (w.at + 1) 0) (least_body kind) then refused_elements short_element w.at
    else when bad_token kind (take w.count w.elements) (get_or s (w.at + 2) 0) then refused_elements bad_element_token w.at
    else with_element s kind w end (subelements_of s kind w.at end)

-- the element at w.at: "Element header or body passes the end" (4); "In each frame only its own element ID counts"
unfoldable pub element_step : ℕ → List ℕ → Kind → ElementWalk → ElementWalk
element_step most s kind w =
    when eqb (piece_end s w.at (length s)) 0 then refused_elements element_past_end w.at
    else when not (eqb (get_or s w.at 0) (request_id kind)) then passed w (piece_end s w.at (length s))
    else own_request_step most s kind w (piece_end s w.at (length s))

abbrev pub more_elements : List ℕ → ElementWalk → Bool
more_elements s w = eqb w.refusal.number 0 && ltb w.at (length s)

-- "then elements from the front": those behind the three octets of the header; the first refusal stops
unfoldable pub walk_elements : ℕ → List ℕ → Kind → ElementWalk
walk_elements most s kind = repeat_while (length s) (more_elements s) (element_step most s kind) (started no_refusal 3)
