-- `traces::text::buffer_line` meets its contract.
-- Assumes nothing.
use Rattle.std.proofs.Common.{◌≤◌, arith, length}
use Rattle.texts.proofs.PutLaws.{at_most, whole}
use Rattle.traces.specs.Places.{longest_length}
use Rattle.traces.specs.Lines.{buffer_line_most}
use Rattle.traces.proofs.text.buffer_line.Goals as goal

pub returns : goal.returns
returns c = let few : length c.args.buf.now.items ≤ longest_length = rw (← c.as_slice.ensures.value) c.as_slice.ensures.fits in
    let p = rw c.as_slice.ensures.value at c.put_buffer_line.ensures in
    (whole c.new-line.ensures (at_most buffer_line_most (omega (arith, few)) p) (omega arith)).0
