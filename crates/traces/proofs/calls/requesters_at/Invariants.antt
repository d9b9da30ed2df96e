-- `traces::calls::requesters_at` meets its contract: the first i requesters are read.
-- Assumes nothing.
use Rattle.std.proofs.Common.{◌≡◌}
use Rattle.traces.specs.Records.{requesters_at}
use Rattle.traces.proofs.calls.requesters_at.Given as goal

abbrev pub invariant-loop-i : goal.invariant-loop-i
invariant-loop-i l = l.list.items ≡ requesters_at l.s l.i l.first
