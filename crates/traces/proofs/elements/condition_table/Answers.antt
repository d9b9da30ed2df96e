-- `traces::elements::condition_table` meets its contract.
-- Assumes nothing.
use Rattle.std.proofs.Common.{lt-ltb, le-ltb}
use Rattle.laws.specs.Choice.{when◌then◌else◌}
use Rattle.traces.specs.Elements.{condition_table}
use Rattle.traces.proofs.elements.condition_table.Goals as goal

pub returns-then-ty-lt-TABLES : goal.returns-then-ty-lt-TABLES
unfolding condition_table when◌then◌else◌
returns-then-ty-lt-TABLES c = rw (c.in-Event.is, lt-ltb _ _ c.if-ty-lt-TABLES.true)

pub returns-else-ty-lt-TABLES : goal.returns-else-ty-lt-TABLES
unfolding condition_table when◌then◌else◌
returns-else-ty-lt-TABLES c = rw (c.in-Event.is, le-ltb _ _ c.if-ty-lt-TABLES.false)

pub returns-in-Diagnostic : goal.returns-in-Diagnostic
unfolding condition_table
returns-in-Diagnostic c = rw c.in-Diagnostic.is
