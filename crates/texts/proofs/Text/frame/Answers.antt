-- `texts::Text::frame` meets its contract.
-- Assumes nothing.
use Rattle.std.proofs.Common.{arith}
use Rattle.texts.specs.Text.{frame_line}
use Rattle.texts.proofs.PutLaws.{one, short, at_most, both}
use Rattle.texts.proofs.Text.frame.Goals as goal

pub returns : goal.returns
unfolding frame_line
returns g c = at_most _ (omega arith) (both (both (both (short c.field.ensures) (short c.field-2.ensures)) (short c.field-3.ensures)) (one c.put.ensures))
