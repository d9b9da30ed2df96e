-- `report_listing::put_tail` meets its contract.
-- Assumes nothing.
use Rattle.texts.proofs.PutLaws.{short, at_most}
use Rattle.report_listing.specs.Listing.{tail_text}
use Rattle.report_listing.proofs.Laws.{tail-most}
use Rattle.report_listing.proofs.put_tail.Goals as goal

pub returns-in-Event : goal.returns-in-Event
unfolding tail_text
returns-in-Event c = rw c.in-Event.is c.put_event_tail.ensures

pub returns-in-Diagnostic : goal.returns-in-Diagnostic
unfolding tail_text
returns-in-Diagnostic c = rw c.in-Diagnostic.is (at_most _ (tail-most c.args.e.logged) (short c.field.ensures))
