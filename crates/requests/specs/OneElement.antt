-- One event request element by itself, read as in a frame (document 02 (f): "a request element").
-- Assumes nothing.
use Rattle.std.specs.Prelude.{ℕ, not, List, eqb, length, get_or, Result, Ok, Err}
use Rattle.laws.specs.Choice.{when◌then◌else◌}
use Rattle.octets.specs.declared.numbers.Kind.TheVariants.{Event}
use Rattle.octets.specs.Numbers.{request_id}
use Rattle.octets.specs.declared.refusals.Refusal.{Refusal as CodeRefusal}
use Rattle.octets.specs.Refusals.{Refusal, refused, no_refusal, element_past_end, refusal_of}
use Rattle.octets.specs.Elements.{piece_end}
use Rattle.requests.specs.declared.Element.{Element}
use Rattle.requests.specs.Elements.{blank_element, past_elements, ElementWalk, started, own_request_step}

-- what a reader finds of it: refused, with the element blank, or the element
pub record OneElement : Type 0 where
  pub refusal : Refusal
  pub element : Element

-- what the walk over a frame's elements found of it
abbrev pub one_of : ElementWalk → OneElement
one_of w = record { refusal = w.refusal; element = get_or w.elements 0 past_elements }

abbrev pub refused_one : ℕ → ℕ → OneElement
refused_one number place = record { refusal = refused number place; element = blank_element }

-- "4 at 0 also meets another ID or octets behind"; then 5, 6, and its subelements' 7 and 8, as in a frame
unfoldable pub read_element : List ℕ → OneElement
read_element s =
    when eqb (piece_end s 0 (length s)) 0 then refused_one element_past_end 0
    else when not (eqb (piece_end s 0 (length s)) (length s)) then refused_one element_past_end 0
    else when not (eqb (get_or s 0 0) (request_id Event)) then refused_one element_past_end 0
    else one_of (own_request_step 1 s Event (started no_refusal 0) (length s))

-- an element as code gives it
abbrev pub element_read : Result Element CodeRefusal → OneElement
element_read (Ok e) = record { refusal = no_refusal; element = e }
element_read (Err r) = record { refusal = refusal_of r; element = blank_element }
