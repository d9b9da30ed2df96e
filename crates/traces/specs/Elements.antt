-- The elements of a request writer's record: "token (1), type (1), limit or timeout (2; a limit is below 256), number of conditions (1), each
-- with ID (1, .. rising), length (1, ..), octets".
-- Assumes nothing.
use Rattle.std.specs.Prelude.{ℕ, zero, suc, ◌+◌, ◌%◌, Bool, true, false, not, List, get_or, set, eqb, ltb}
use Rattle.laws.specs.Choice.{when◌then◌else◌}
use Rattle.octets.specs.declared.numbers.Kind.{Kind}
use Rattle.octets.specs.declared.numbers.Kind.TheVariants.{Event, Diagnostic}
use Rattle.octets.specs.Fields.{pair_at}
use Rattle.subelements.specs.declared.Condition.{Condition}
use Rattle.subelements.specs.Subelements.{row_of, body_at, no_filter, tables}
use Rattle.requests.specs.declared.Element.{Element}
use Rattle.requests.specs.Elements.{blank_element, blank_elements}
use Rattle.traces.specs.declared.elements.Conditions.{Conditions}
use Rattle.traces.specs.declared.elements.Recorded.{Recorded}
use Rattle.traces.specs.declared.elements.Elements.{Elements}
use Rattle.traces.specs.Places.{place_behind_record}

-- ---- conditions

-- the event type whose table they follow: "every other element keeps document 01's"
unfoldable pub condition_table : Kind → ℕ → ℕ
condition_table Event ty = when ltb ty tables then ty else 0
condition_table Diagnostic ty = 0

-- a condition's length, "the EAP method always as eight octets"; 0: no condition has the ID
abbrev pub traced_length : ℕ → ℕ → ℕ
traced_length ty id = (row_of ty id).expanded

-- where one ends: its ID is not below the least one, and it has the length of its ID
unfoldable pub condition_end : List ℕ → ℕ → ℕ → ℕ → ℕ
condition_end s ty at least =
    let n = traced_length ty (get_or s at 0) in
    when ltb (get_or s at 0) least then 0
    else when eqb n 0 then 0
    else when not (eqb (get_or s (at + 1) 0) n) then 0
    else place_behind_record s at (2 + n)

unfoldable pub traced_condition : List ℕ → ℕ → ℕ → Condition
traced_condition s ty at = record { present = true; octets = body_at s (at + 2) (traced_length ty (get_or s at 0)) }

-- one more, with an ID above those before it
unfoldable pub with_condition : List ℕ → ℕ → Conditions → Conditions
with_condition s ty w =
    let id = get_or s w.end 0 in
    record { end = condition_end s ty w.end w.least; least = id + 1; filter = set w.filter id (traced_condition s ty w.end) }

-- so many more
unfoldable pub more_conditions : List ℕ → ℕ → ℕ → Conditions → Conditions
more_conditions s ty zero w = w
more_conditions s ty (suc k) w = more_conditions s ty k (with_condition s ty w)

abbrev pub started_conditions : ℕ → Conditions
started_conditions from = record { end = from; least = 0; filter = no_filter }

abbrev pub conditions_at : List ℕ → ℕ → ℕ → ℕ → Conditions
conditions_at s ty count from = more_conditions s ty count (started_conditions from)

-- ---- elements

-- "a limit is below 256"
abbrev pub bad_value : Kind → ℕ → Bool
bad_value Event value = ltb 255 value
bad_value Diagnostic value = false

abbrev pub limit_of : Kind → ℕ → ℕ
limit_of Event value = value % 256
limit_of Diagnostic value = 0

abbrev pub timeout_of : Kind → ℕ → ℕ
timeout_of Event value = 0
timeout_of Diagnostic value = value

abbrev pub traced_element : List ℕ → Kind → ℕ → List Condition → Element
traced_element s kind at filter =
    record {
      token = get_or s at 0;
      ty = get_or s (at + 1) 0;
      limit = limit_of kind (pair_at s (at + 2));
      subs = 0;
      timeout = timeout_of kind (pair_at s (at + 2));
      filter = filter;
    }

abbrev pub refused_element : Recorded
refused_element = record { end = 0; element = blank_element }

unfoldable pub traced_element_at : List ℕ → Kind → ℕ → Recorded
traced_element_at s kind at =
    let from = place_behind_record s at 5 in
    let conditions = conditions_at s (condition_table kind (get_or s (at + 1) 0)) (get_or s (at + 4) 0) from in
    when eqb from 0 then refused_element
    else when bad_value kind (pair_at s (at + 2)) then refused_element
    else when eqb conditions.end 0 then refused_element
    else record { end = conditions.end; element = traced_element s kind at conditions.filter }

-- one more, kept where it is one of the first eight
unfoldable pub with_traced : Elements → ℕ → Recorded → Elements
with_traced w i r = record { end = r.end; elements = set w.elements i r.element }

-- so many, behind the first i
unfoldable pub more_traced : List ℕ → Kind → ℕ → ℕ → Elements → Elements
more_traced s kind zero i w = w
more_traced s kind (suc k) i w = more_traced s kind k (i + 1) (with_traced w i (traced_element_at s kind w.end))

abbrev pub started_trace : ℕ → Elements
started_trace from = record { end = from; elements = blank_elements }

abbrev pub elements_at : List ℕ → Kind → ℕ → ℕ → Elements
elements_at s kind count from = more_traced s kind count 0 (started_trace from)
