-- `traces::elements::elements_at` meets its contract: the elements left give what all of them do.
-- Assumes nothing.
use Rattle.std.proofs.Common.{◌-◌, ◌<◌, ◌≡◌}
use Rattle.traces.specs.Elements.{elements_at, more_traced}
use Rattle.traces.proofs.elements.elements_at.Given as goal

abbrev pub invariant-loop-i : goal.invariant-loop-i
invariant-loop-i l = (0 < l.w.end) × (elements_at l.s l.kind l.count l.from ≡ more_traced l.s l.kind (l.count - l.i) l.i l.w)
