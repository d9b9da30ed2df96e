-- `texts::digit` meets its contract.
-- Assumes nothing.
use Rattle.std.proofs.Common.{lt-ltb, le-ltb}
use Rattle.laws.specs.Choice.{when◌then◌else◌}
use Rattle.texts.specs.Text.{digit}
use Rattle.texts.proofs.digit.Goals as goal

pub returns-then-x-lt10 : goal.returns-then-x-lt10
unfolding digit when◌then◌else◌
returns-then-x-lt10 c = rw (lt-ltb _ _ c.if-x-lt10.true)

pub returns-else-x-lt10 : goal.returns-else-x-lt10
unfolding digit when◌then◌else◌
returns-else-x-lt10 c = rw (le-ltb _ _ c.if-x-lt10.false)
