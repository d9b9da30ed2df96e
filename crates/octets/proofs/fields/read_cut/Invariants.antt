-- `octets::read_cut` meets its contract. The invariant: the first i octets are read.
-- Assumes nothing.
use Rattle.std.proofs.Common.{◌≡◌, ◌++◌, length, drop}
use Rattle.octets.specs.Fields.{octets_at}
use Rattle.octets.proofs.fields.read_cut.Given as goal

abbrev pub invariant-loop-i : goal.invariant-loop-i
invariant-loop-i l = (length l.out ≡ length l.initial.out) × (l.out ≡ octets_at l.s l.at l.i ++ drop l.i l.initial.out)
