-- Document 01, "Frames and elements": the subelements of one element; causes 7 and 8 of the table.
-- Assumes nothing.
use Rattle.std.specs.Prelude.{ℕ, ◌+◌, Bool, true, false, not, ◌&&◌, List, [], ◌∷◌, get_or, set, ltb, eqb, Result, Ok, Err}
use Rattle.laws.specs.Choice.{when◌then◌else◌}
use Rattle.laws.specs.Walk.{repeat_while}
use Rattle.octets.specs.declared.refusals.Refusal.{Refusal as CodeRefusal}
use Rattle.octets.specs.Refusals.{Refusal, refused, no_refusal, bad_subelement, repeated_subelement, refusal_of}
use Rattle.octets.specs.Elements.{piece_end}
use Rattle.subelements.specs.declared.Length.{Length}
use Rattle.subelements.specs.declared.Subelements.{Subelements as CodeSubelements}
use Rattle.subelements.specs.declared.Condition.{Condition}

-- a subelement's body length, and the one where its first octet is 254; 0: the ID is reserved
abbrev pub fixed : ℕ → Length
fixed n = record { plain = n; expanded = n }

abbrev pub reserved : Length
reserved = fixed 0

-- "An EAP method has 8 octets if its first is 254, else 1"
abbrev pub method : Length
method = record { plain = 1; expanded = 8 }

-- by event type and subelement ID. Transition: "0 target BSSID 6, 1 source BSSID 6, 2 transition time threshold 2, 3 match value 1, 4
-- frequent transition 3". RSNA (001, Table v3): target BSSID, authentication type, EAP method, result. Peer link (Table v4): peer address,
-- channel
abbrev pub lengths : List (List Length)
lengths =
    (fixed 6 ∷ fixed 6 ∷ fixed 2 ∷ fixed 1 ∷ fixed 3 ∷ [])
    ∷ (fixed 6 ∷ fixed 4 ∷ method ∷ fixed 1 ∷ reserved ∷ [])
    ∷ (fixed 6 ∷ fixed 2 ∷ reserved ∷ reserved ∷ reserved ∷ [])
    ∷ []

abbrev pub row_of : ℕ → ℕ → Length
row_of ty id = get_or (get_or lengths ty []) id reserved

-- by the first octet of the body
unfoldable pub length_of : ℕ → ℕ → ℕ → ℕ
length_of ty id first = when eqb first 254 then (row_of ty id).expanded else (row_of ty id).plain

-- octet k of a body of n octets that starts at a position; 0 past its end
unfoldable pub body_octet : List ℕ → ℕ → ℕ → ℕ → ℕ
body_octet s at n k = when ltb k n then get_or s (at + k) 0 else 0

-- the body, in eight places
unfoldable pub body_at : List ℕ → ℕ → ℕ → List ℕ
body_at s at n =
    body_octet s at n 0
    ∷ body_octet s at n 1
    ∷ body_octet s at n 2
    ∷ body_octet s at n 3
    ∷ body_octet s at n 4
    ∷ body_octet s at n 5
    ∷ body_octet s at n 6
    ∷ body_octet s at n 7
    ∷ []

abbrev pub absent : Condition
absent = record { present = false; octets = 0 ∷ 0 ∷ 0 ∷ 0 ∷ 0 ∷ 0 ∷ 0 ∷ 0 ∷ [] }

abbrev pub no_filter : List Condition
no_filter = absent ∷ absent ∷ absent ∷ absent ∷ absent ∷ []

-- what stands past a filter's end: the default that the logic reads there
abbrev pub past_filter : Condition
past_filter = record { present = false; octets = [] }

-- how far a walk has come: refused, or the next position, the number of subelements walked, and the condition of each ID of the table
pub record Subelements : Type 0 where
  pub refusal : Refusal
  pub at : ℕ
  pub count : ℕ
  pub filter : List Condition

-- a walk with no subelement yet; a refused walk has nothing else
abbrev pub walked : Refusal → ℕ → Subelements
walked r at = record { refusal = r; at = at; count = 0; filter = no_filter }

abbrev pub refused_walk : ℕ → ℕ → Subelements
refused_walk number place = walked (refused number place) 0

-- behind one more subelement
abbrev pub past : Subelements → ℕ → List Condition → Subelements
past w next filter = record { refusal = no_refusal; at = next; count = w.count + 1; filter = filter }

-- a whole one, which ends at next. An ID of the type's table has its length (7) and is not repeated (8); others "are passed over"
unfoldable pub whole_step : List ℕ → ℕ → Subelements → ℕ → Subelements
whole_step s ty w next =
    let id = get_or s w.at 0 in
    let n = get_or s (w.at + 1) 0 in
    let want = length_of ty id (get_or s (w.at + 2) 0) in
    when eqb want 0 then past w next w.filter
    else when not (eqb n want) then refused_walk bad_subelement w.at
    else when (get_or w.filter id past_filter).present then refused_walk repeated_subelement w.at
    else past w next (set w.filter id (record { present = true; octets = body_at s (w.at + 2) n }))

-- the one at w.at: "Subelement passes the end" (7)
unfoldable pub subelement_step : List ℕ → ℕ → ℕ → Subelements → Subelements
subelement_step s ty end w =
    when eqb (piece_end s w.at end) 0 then refused_walk bad_subelement w.at
    else whole_step s ty w (piece_end s w.at end)

abbrev pub more_subelements : ℕ → Subelements → Bool
more_subelements end w = eqb w.refusal.number 0 && ltb w.at end

-- how many event types have a table; subelements that are "walked for their edges only" are walked as of a type that has none
abbrev pub tables : ℕ
tables = 3

-- all from a position to the end, from the front, as those of an event type; the first refusal stops
unfoldable pub walk : List ℕ → ℕ → ℕ → ℕ → Subelements
walk s ty from end = repeat_while end (more_subelements end) (subelement_step s ty end) (walked no_refusal from)

-- ---- a walk as code gives it

abbrev pub accepted_walk : CodeSubelements → Subelements
accepted_walk w = record { refusal = no_refusal; at = w.at; count = w.count; filter = w.filter }

abbrev pub walk_read : Result CodeSubelements CodeRefusal → Subelements
walk_read (Ok w) = accepted_walk w
walk_read (Err r) = walked (refusal_of r) 0
