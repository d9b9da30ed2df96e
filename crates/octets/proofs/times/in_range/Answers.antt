-- `octets::in_range` meets its contract.
-- Assumes nothing.
use Rattle.std.proofs.Common.{rules, tests, arith}
use Rattle.laws.specs.Choice.{when◌then◌else◌}
use Rattle.octets.specs.Times.{in_range}
use Rattle.octets.proofs.times.in_range.Goals as goal

pub returns-else-x-ones : goal.returns-else-x-ones
unfolding in_range when◌then◌else◌
returns-else-x-ones c = search (rules, tests, arith)
