-- `texts::Text::hexes` meets its contract. The invariant, `Lining`: the octets before this one are written.
-- Assumes nothing.
use Rattle.texts.proofs.PutLaws.{lining_start, lining_next, short}
use Rattle.texts.proofs.Text.hexes.Goals as goal

pub loop-x-init : goal.loop-x-init
loop-x-init g c = lining_start _ _ _ _ _

pub loop-x-preserved : goal.loop-x-preserved
loop-x-preserved g c = lining_next c.loop-x.invariant 0 c.loop-x-test.true (short c.hex.ensures)
