-- `traces::text::put_line` meets its contract.
-- Assumes nothing.
use Rattle.texts.proofs.PutLaws.{one, short, both}
use Rattle.traces.specs.Lines.{number_line}
use Rattle.traces.proofs.text.put_line.Goals as goal

pub returns : goal.returns
unfolding number_line
returns c = both (short c.field.ensures) (one c.put.ensures)
