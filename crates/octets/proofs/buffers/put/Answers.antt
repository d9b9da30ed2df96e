-- `octets::put` meets its contract: all that lies behind the first octets is lent to the copy.
-- Assumes nothing.
use Rattle.std.proofs.Common.{◌+◌, ◌-◌, refl, sym, ap, ◌∙◌, arith, length, take, drop}
use Rattle.laws.specs.Buffers.{wrote}
use Rattle.laws.proofs.Buffers.{put_at-fits, copied, lent_tail}
use Rattle.octets.proofs.buffers.put.Goals as goal

pub returns : goal.returns
returns c = let a = c.args in
    let s = a.buf.now in
    let o = a.o.now in
    sym
    (put_at-fits o a.at s (omega arith)
    ∙ ap (wrote (a.at + length o))
    (sym (lent_tail o s c.copy.new.buf a.at (omega arith) (copied o o (take (length s - a.at) (drop a.at s)) c.copy.new.buf refl c.copy.ensures.after))))
