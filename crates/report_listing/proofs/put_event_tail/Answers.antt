-- `report_listing::put_event_tail` meets its contract.
-- Assumes nothing.
use Rattle.std.proofs.Common.{arith, eq-eqb, ne_eqb}
use Rattle.laws.specs.Choice.{when◌then◌else◌}
use Rattle.texts.proofs.PutLaws.{at_most, nothing}
use Rattle.report_listing.specs.Listing.{event_tail}
use Rattle.report_listing.specs.Internal.{unread_most}
use Rattle.report_listing.proofs.put_event_tail.Goals as goal

pub returns-then-e : goal.returns-then-e
unfolding event_tail when◌then◌else◌
returns-then-e c = rw c.if-e.true c.put_event.ensures

pub returns-then-e-eq-SUCCESSFUL : goal.returns-then-e-eq-SUCCESSFUL
unfolding event_tail when◌then◌else◌
returns-then-e-eq-SUCCESSFUL c = rw (c.if-e.false, eq-eqb _ _ c.if-e-eq-SUCCESSFUL.true) c.put_unread.ensures

pub returns-else-e-eq-SUCCESSFUL : goal.returns-else-e-eq-SUCCESSFUL
unfolding event_tail when◌then◌else◌
returns-else-e-eq-SUCCESSFUL c = rw (c.if-e.false, ne_eqb _ _ c.if-e-eq-SUCCESSFUL.false) (at_most unread_most (omega arith) (nothing _ _))
