-- `request_writer::put_filter` meets its contract. The invariant, `Putting`: the conditions before this one stand at the front.
-- Assumes nothing.
use Rattle.std.proofs.Common.{◌≡◌, length, drop}
use Rattle.laws.specs.Buffers.{pieces}
use Rattle.laws.proofs.Buffers.{Putting}
use Rattle.request_writer.specs.Frames.{condition_octets, filter_octets}
use Rattle.request_writer.proofs.put_filter.Given as goal

abbrev pub invariant-loop-id : goal.invariant-loop-id
invariant-loop-id l = (length l.c-items ≡ 5) × Putting (filter_octets l.ty l.c-items) l.initial.buf l.buf l.at (pieces (condition_octets l.ty) l.id (drop l.id l.c-items))
