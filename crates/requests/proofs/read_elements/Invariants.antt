-- `requests::read_elements` meets its contract. The invariant, `Walking`: what is left of the walk gives what the whole walk gives.
-- Assumes nothing.
use Rattle.std.proofs.Common.{◌-◌, length}
use Rattle.requests.proofs.Laws.{Walking}
use Rattle.requests.proofs.read_elements.Given as goal

abbrev pub invariant-loop-next : goal.invariant-loop-next
invariant-loop-next l = Walking l.s l.kind l.next l.n l.elements

abbrev pub decreases-loop-next : goal.decreases-loop-next
decreases-loop-next l = length l.s - l.next
