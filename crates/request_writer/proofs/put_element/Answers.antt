-- `request_writer::put_element` meets its contract: what its first octets become, the buffer has at its front.
-- Assumes nothing.
use Rattle.std.proofs.Common.{arith}
use Rattle.request_writer.proofs.Writing.{chunk_front}
use Rattle.request_writer.proofs.put_element.Goals as goal

pub returns-in-Event-clause-put : goal.returns-in-Event-clause-put
returns-in-Event-clause-put c = rw c.in-Event.is (chunk_front _ _ _ 33 c.in-Some.ensures.cases (omega (arith, c.put_event.ensures.length)) c.put_event.ensures.put)

pub returns-in-Diagnostic-clause-put : goal.returns-in-Diagnostic-clause-put
returns-in-Diagnostic-clause-put c = rw c.in-Diagnostic.is (chunk_front _ _ _ 33 c.in-Some.ensures.cases (omega (arith, c.put_diagnostic.ensures.length)) c.put_diagnostic.ensures.put)
