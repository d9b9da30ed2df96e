-- `station::frames::admit` meets its contract.
-- Assumes nothing.
use Rattle.laws.specs.Choice.{when◌then◌else◌}
use Rattle.station.specs.Internal.{admitted}
use Rattle.station.proofs.frames.admit.Goals as goal

pub returns-then-is_group : goal.returns-then-is_group
unfolding admitted when◌then◌else◌
returns-then-is_group c = rw (← c.is_group.ensures, c.if-is_group.true, c.at.ensures)

pub returns-then-not-found : goal.returns-then-not-found
unfolding admitted when◌then◌else◌
returns-then-not-found c = rw (← c.is_group.ensures, c.if-is_group.false, c.if-not-found.true, c.at-then-not-found.ensures)

pub returns : goal.returns
unfolding admitted when◌then◌else◌
returns c = rw (← c.is_group.ensures, c.if-is_group.false, c.if-not-found.false)
