-- `request_writer::put_diagnostic` meets its contract.
-- Assumes nothing.
use Rattle.std.proofs.Common.{◌≡◌, ap, ◌∙◌, [], ◌∷◌, arith, length}
use Rattle.laws.proofs.Buffers.{copied}
use Rattle.octets.specs.declared.numbers.Kind.TheVariants.{Diagnostic}
use Rattle.request_writer.specs.Frames.{element_octets}
use Rattle.request_writer.proofs.Writing.{diagnostic_octets}
use Rattle.request_writer.proofs.put_diagnostic.Goals as goal

pub returns : goal.returns
returns c =
    let a = c.args in
    let e : c.request_id.result ∷ 4 ∷ a.e.token ∷ a.e.ty ∷ c.low.result ∷ c.high.result ∷ [] ≡ element_octets Diagnostic a.e
    = rw (c.request_id.ensures, c.low.ensures, c.high.ensures) (diagnostic_octets a.e) in
    record {
      length = (c.copy.ensures.value ∙ ap length (diagnostic_octets a.e), omega (arith, c.copy.ensures.value));
      put = copied _ _ a.buf.now c.copy.new.buf e c.copy.ensures.after;
    }
