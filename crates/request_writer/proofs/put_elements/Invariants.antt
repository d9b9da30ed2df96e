-- `request_writer::put_elements` meets its contract. The invariant, `Laying`: the elements before this one stand at the front, and their tokens are good.
-- Assumes nothing.
use Rattle.request_writer.proofs.Writing.{Laying}
use Rattle.request_writer.proofs.put_elements.Given as goal

abbrev pub invariant-loop-i : goal.invariant-loop-i
invariant-loop-i l = Laying l.q.kind l.q.elements l.q.count l.initial.buf l.buf l.at l.i
