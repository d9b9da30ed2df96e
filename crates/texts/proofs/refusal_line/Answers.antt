-- `texts::refusal_line` meets its contract.
-- Assumes nothing.
use Rattle.std.proofs.Common.{arith}
use Rattle.texts.specs.Text.{refusal_line}
use Rattle.texts.proofs.PutLaws.{one, short, both, whole}
use Rattle.texts.proofs.refusal_line.Goals as goal

pub returns : goal.returns
unfolding refusal_line
returns c = (whole c.new-line.ensures (both (both (short (rw c.number.ensures at c.field.ensures)) (short c.field-2.ensures)) (one c.put.ensures)) (omega arith)).0
