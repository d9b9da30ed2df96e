-- `report_listing::put_times` meets its contract: by the form.
-- Assumes nothing.
use Rattle.std.proofs.Common.{arith, ne_eqb}
use Rattle.laws.specs.Choice.{when◌then◌else◌}
use Rattle.texts.proofs.PutLaws.{at_most}
use Rattle.report_listing.specs.Listing.{times_text}
use Rattle.report_listing.specs.Internal.{times_most}
use Rattle.report_listing.proofs.put_times.Goals as goal

pub returns-then-form-eq-DRAFT : goal.returns-then-form-eq-DRAFT
unfolding times_text when◌then◌else◌
returns-then-form-eq-DRAFT c = rw c.if-form-eq-DRAFT.true (at_most times_most (omega arith) c.put_time.ensures)

pub returns-else-form-eq-DRAFT : goal.returns-else-form-eq-DRAFT
unfolding times_text when◌then◌else◌
returns-else-form-eq-DRAFT c = rw (ne_eqb _ _ c.if-form-eq-DRAFT.false) c.put_published.ensures
