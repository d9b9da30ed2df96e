-- `octets::read_cut` meets its contract. The invariant: the first i octets are read.
-- Assumes nothing.
use Rattle.std.proofs.Common.{◌∙◌, arith, length-set}
use Rattle.octets.proofs.PlaceLaws.{octets_next}
use Rattle.octets.proofs.fields.read_cut.Goals as goal

pub loop-i-preserved : goal.loop-i-preserved
loop-i-preserved c = let a = c.args in
    let l = c.loop-i in
    let k = l.invariant in
    (length-set l.out l.i _ ∙ k.0, octets_next a.s.now a.out.now l.out l.i a.at k.1 _ (omega arith) c.octet.ensures)
