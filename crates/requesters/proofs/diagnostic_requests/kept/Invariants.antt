-- `requesters::diagnostic_requests::kept` meets its contract. The invariant: what is kept, with those on time of the places left, is what is on time.
-- Assumes nothing.
use Rattle.std.proofs.Common.{◌≤◌, ◌≡◌, ◌++◌, length, take, drop}
use Rattle.units.specs.Time.{elapsed_since}
use Rattle.requests.specs.Elements.{element_capacity}
use Rattle.model.specs.Diagnostics.{on_time}
use Rattle.requesters.proofs.diagnostic_requests.kept.Given as goal

abbrev pub invariant-loop-i : goal.invariant-loop-i
invariant-loop-i l =
    (l.count ≤ l.i) × (l.count ≤ element_capacity) × (l.end ≤ length l.all) × (length l.all ≡ element_capacity) × (length l.elements ≡ element_capacity) × (take l.count l.elements ++ on_time elapsed_since l.now.0 l.accepted.0 (drop l.i (take l.end l.all)) ≡ on_time elapsed_since l.now.0 l.accepted.0 (drop l.initial.i (take l.end l.all)))
