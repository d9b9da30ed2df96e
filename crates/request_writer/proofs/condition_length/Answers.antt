-- `request_writer::condition_length` meets its contract.
-- Assumes nothing.
use Rattle.std.proofs.Common.{◌≡◌, arith}
use Rattle.laws.specs.Choice.{when◌then◌else◌}
use Rattle.request_writer.specs.Frames.{condition_length}
use Rattle.request_writer.proofs.ConditionsBack.{length-within}
use Rattle.request_writer.proofs.condition_length.Goals as goal

pub returns : goal.returns
unfolding condition_length when◌then◌else◌
returns c = let a = c.args in
    let e : c.length_of.result ≡ condition_length a.ty a.id a.c = rw c.if-not-c.false c.length_of.ensures in
    (e, omega (arith, e, length-within a.ty a.id a.c))
