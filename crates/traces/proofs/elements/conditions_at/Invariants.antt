-- `traces::elements::conditions_at` meets its contract: the conditions left give what all of them do.
-- Assumes nothing.
use Rattle.std.proofs.Common.{◌-◌, ◌<◌, ◌≡◌}
use Rattle.traces.specs.Elements.{conditions_at, more_conditions}
use Rattle.traces.proofs.elements.conditions_at.Given as goal

abbrev pub invariant-loop-i : goal.invariant-loop-i
invariant-loop-i l = (0 < l.w.end) × (conditions_at l.s l.ty l.count l.from ≡ more_conditions l.s l.ty (l.count - l._i) l.w)
