-- `request_listing::put_limit` meets its contract.
-- Assumes nothing.
use Rattle.std.proofs.Common.{arith}
use Rattle.texts.proofs.PutLaws.{short, at_most}
use Rattle.request_listing.specs.Listing.{limit_field}
use Rattle.request_listing.proofs.put_limit.Goals as goal

pub returns-in-Event : goal.returns-in-Event
unfolding limit_field
returns-in-Event c = rw c.in-Event.is (at_most 14 (omega arith) (short c.field.ensures))

pub returns-in-Diagnostic : goal.returns-in-Diagnostic
unfolding limit_field
returns-in-Diagnostic c = rw c.in-Diagnostic.is (short c.field-in-Diagnostic.ensures)
