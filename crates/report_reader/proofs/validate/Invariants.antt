-- `report_reader::validate` meets its contract. The invariant, `Validating`: the walk is what is kept of a reading, and what is left of that gives the whole.
-- Assumes nothing.
use Rattle.std.proofs.Common.{◌-◌, length}
use Rattle.report_reader.specs.Internal.{walk_kept}
use Rattle.report_reader.proofs.Laws.{Validating}
use Rattle.report_reader.proofs.validate.Given as goal

abbrev pub invariant-loop-w : goal.invariant-loop-w
invariant-loop-w l = Validating l.form l.s l.kind (walk_kept l.w)

abbrev pub decreases-loop-w : goal.decreases-loop-w
decreases-loop-w l = length l.s - l.w.at
