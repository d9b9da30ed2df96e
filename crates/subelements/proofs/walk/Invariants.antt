-- `subelements::walk` meets its contract. The invariant, `Walking`: what is left of the walk gives what the whole walk gives.
-- Assumes nothing.
use Rattle.std.proofs.Common.{◌-◌}
use Rattle.subelements.specs.Subelements.{accepted_walk}
use Rattle.subelements.proofs.Laws.{Walking}
use Rattle.subelements.proofs.walk.Given as goal

abbrev pub invariant-loop-w : goal.invariant-loop-w
invariant-loop-w l = Walking l.s l.ty l.from l.end (accepted_walk l.w)

abbrev pub decreases-loop-w : goal.decreases-loop-w
decreases-loop-w l = l.end - l.w.at
