-- `requesters::diagnostic_requests::diagnostic_treatment` meets its contract.
-- Assumes nothing.
use Rattle.std.proofs.Common.{arith, ne_eqb}
use Rattle.laws.specs.Choice.{when◌then◌else◌}
use Rattle.model.specs.Diagnostics.{diagnostic_treatment}
use Rattle.requesters.proofs.diagnostic_requests.diagnostic_treatment.Goals as goal

pub returns-in-0 : goal.returns-in-0
unfolding diagnostic_treatment when◌then◌else◌
returns-in-0 c = rw c.in-0.is

pub returns-in-1 : goal.returns-in-1
unfolding diagnostic_treatment when◌then◌else◌
returns-in-1 c = rw c.in-1.is

pub returns-in_default : goal.returns-in_default
unfolding diagnostic_treatment when◌then◌else◌
returns-in_default c = rw (ne_eqb c.args.ty 0 (omega arith), ne_eqb c.args.ty 1 (omega arith))
