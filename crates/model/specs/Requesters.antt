-- Requesters (document 01: consoles): the list that names them, and the one that an address finds.
-- Assumes nothing.
use Rattle.std.specs.Prelude.{ℕ, Bool, true, false, not, ◌||◌, List, [], ◌∷◌, eqb, ltb, length}
use Rattle.std.proofs.Math.Option.{Option, none, some}
use Rattle.laws.specs.Members.{any}
use Rattle.laws.specs.Choice.{when◌then◌else◌}
use Rattle.octets.specs.Addresses.{same, is_group}
use Rattle.events.specs.Times.{draft, is_form}
use Rattle.model.specs.Model.{Address, Listed, listed_address, listed_form, Requester}

-- "repeated" goes by the address
unfoldable pub repeated : List Listed → Bool
repeated [] = false
repeated (x ∷ l) = any (λ y. same (listed_address x) (listed_address y)) l || repeated l

-- "a group address", and document 02 (g): "a form number other than 0 or 1"
unfoldable pub bad_listed : Listed → Bool
bad_listed x = when is_group (listed_address x) then true else not (is_form (listed_form x))

-- "Console list empty, over the most, repeated, or with a group address" (15), or such a form
unfoldable pub bad_list : ℕ → List Listed → Bool
bad_list most l =
    when eqb (length l) 0 then true
    else when ltb most (length l) then true
    else when repeated l then true
    else any bad_listed l

-- a requester just named: it has no request
unfoldable pub new_requester : Listed → Requester
new_requester x = record { address = listed_address x; form = listed_form x; events = none; diagnostics = none }

-- the requester of an address: the first match
unfoldable pub find : Address → List Requester → Option Requester
find a [] = none
find a (r ∷ rs) = when same a r.address then some r else find a rs

-- the form that it follows; where there is none, the draft's
unfoldable pub form_in : Option Requester → ℕ
form_in none = draft
form_in (some r) = r.form

abbrev pub form_of : Address → List Requester → ℕ
form_of a rs = form_in (find a rs)

-- x in the place of the requester that an address finds
unfoldable pub put : Address → Requester → List Requester → List Requester
put a x [] = []
put a x (r ∷ rs) = when same a r.address then x ∷ rs else r ∷ put a x rs
