-- `identities::pass_rows` meets its contract. The invariant: the rows left give what the table gives.
-- Assumes nothing.
use Rattle.std.proofs.Common.{◌≡◌, drop}
use Rattle.identities.specs.Identity.{rows, good_from}
use Rattle.identities.proofs.pass_rows.Given as goal

abbrev pub invariant-loop-row : goal.invariant-loop-row
invariant-loop-row l = good_from l.s l.at (drop l.row-index rows) ≡ good_from l.s 0 rows
