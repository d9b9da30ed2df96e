-- `request_writer::put_filter` meets its contract. The invariant, `Putting`: the conditions before this one stand at the front.
-- Assumes nothing.
use Rattle.std.proofs.Common.{◌+◌, arith, get_or, drop}
use Rattle.laws.specs.Buffers.{pieces}
use Rattle.laws.proofs.Buffers.{putting_fits, putting_next, putting_done, putting_end}
use Rattle.laws.proofs.Pieces.{pieces_next, pieces_end}
use Rattle.subelements.specs.Subelements.{past_filter}
use Rattle.request_writer.specs.Frames.{condition_octets}
use Rattle.request_writer.proofs.Lengths.{filter-length}
use Rattle.request_writer.proofs.put_filter.Goals as goal

pub put_condition-at-requires : goal.put_condition-at-requires
put_condition-at-requires c = let i = c.loop-id.invariant in
    let a = c.args in
    let f = a.filter in
    let id = c.loop-id.id in
    let next = pieces_next (condition_octets a.ty) f id past_filter (omega (arith, i.0)) in
    (omega arith, putting_fits i.1 (condition_octets a.ty id (get_or f id past_filter)) (pieces (condition_octets a.ty) (id + 1) (drop (id + 1) f)) next)

pub loop-id-preserved : goal.loop-id-preserved
loop-id-preserved c = let i = c.loop-id.invariant in
    let a = c.args in
    let f = a.filter in
    let id = c.loop-id.id in
    let next = pieces_next (condition_octets a.ty) f id past_filter (omega (arith, i.0)) in
    (i.0, rw c.put_condition-at.ensures.length (putting_next i.1 (condition_octets a.ty id (get_or f id past_filter)) (pieces (condition_octets a.ty) (id + 1) (drop (id + 1) f)) next c.put_condition-at.new.buf c.put_condition-at.ensures.put))

pub returns : goal.returns
returns c =
    let i = c.loop-id.invariant in
    let e = pieces_end (condition_octets c.args.ty) c.args.filter c.loop-id.id (omega (arith, i.0)) in
    let n = putting_end i.1 e in
    record {
      length = (n, omega (arith, n, filter-length c.args.ty c.args.filter i.0));
      put = putting_done i.1 e;
    }
