-- `station::reporting::serve_report` meets its contract.
-- Assumes nothing.
use Rattle.laws.specs.Choice.{when◌then◌else◌}
use Rattle.station.specs.Internal.{serve_if}
use Rattle.station.proofs.reporting.serve_report.Goals as goal

pub returns-then-not-found : goal.returns-then-not-found
unfolding serve_if when◌then◌else◌
returns-then-not-found c = rw c.if-not-found.true (c.left_alone.ensures _)

pub returns : goal.returns
unfolding serve_if when◌then◌else◌
returns c = rw c.if-not-found.false c.give_report.ensures
