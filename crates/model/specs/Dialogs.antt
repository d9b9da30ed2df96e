-- Dialog tokens: when an accepted frame replaces a request. It is one definition for both kinds of request.
-- Assumes nothing.
use Rattle.std.specs.Prelude.{Bool}
use Rattle.std.proofs.Math.Option.{Option, none, some}
use Rattle.laws.specs.Choice.{when◌then◌else◌}

-- "An accepted frame with another dialog token replaces that console's request of the same kind. An accepted frame with the same token
-- while outstanding changes nothing." The test says of an outstanding request whether it has the same token; new is what the frame asks
unfoldable pub replace : {R : Type 0} → (R → Bool) → Option R → Option R → Option R
replace repeated new none = new
replace repeated new (some r) = when repeated r then some r else new
