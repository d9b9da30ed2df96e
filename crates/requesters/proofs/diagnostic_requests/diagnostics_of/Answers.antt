-- `requesters::diagnostic_requests::diagnostics_of` meets its contract. The invariant is `FillingBack`.
-- Assumes nothing.
use Rattle.model.specs.Diagnostics.{diagnostics_of}
use Rattle.laws.proofs.Arrays.{fill_back, fill_end}
use Rattle.requests.specs.Elements.{past_elements}
use Rattle.requesters.proofs.diagnostic_requests.diagnostics_of.Goals as goal

pub loop-i-preserved : goal.loop-i-preserved
loop-i-preserved c = fill_back c.loop-i.invariant c.loop-i-test.true past_elements c.from.result c.from.ensures

pub returns : goal.returns
unfolding diagnostics_of
returns c = fill_end c.loop-i.invariant c.loop-i-test.false _ c.min-end.ensures
