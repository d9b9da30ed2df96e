-- `traces::text::put_buffer_line` meets its contract.
-- Assumes nothing.
use Rattle.std.proofs.Common.{arith}
use Rattle.texts.proofs.PutLaws.{one, at_most, both}
use Rattle.traces.specs.Lines.{buffer_line}
use Rattle.traces.proofs.text.put_buffer_line.Goals as goal

pub returns : goal.returns
unfolding buffer_line
returns c = at_most _ (omega arith) (both (both (one c.put.ensures) c.hexes.ensures) (one c.put-2.ensures))
