-- `request_listing::put_lines` meets its contract. The invariant, `Lining`: the lines of the elements before this one stand there.
-- Assumes nothing.
use Rattle.texts.proofs.PutLaws.{lining_start, lining_next}
use Rattle.requests.specs.Elements.{past_elements}
use Rattle.request_listing.proofs.put_lines.Goals as goal

pub loop-e-init : goal.loop-e-init
loop-e-init c = lining_start _ _ _ _ _

pub loop-e-preserved : goal.loop-e-preserved
loop-e-preserved c = lining_next c.loop-e.invariant past_elements c.loop-e-test.true c.put_line.ensures
