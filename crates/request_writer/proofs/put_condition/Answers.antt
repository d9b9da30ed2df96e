-- `request_writer::put_condition` meets its contract: its octets are the first of an array of ten.
-- Assumes nothing.
use Rattle.std.proofs.Common.{◌≡◌, sym, ap, ◌∙◌, List, ℕ, arith, length, rules}
use Rattle.laws.specs.Buffers.{onto}
use Rattle.laws.proofs.Buffers.{copied}
use Rattle.laws.proofs.Parts.{spelt}
use Rattle.request_writer.proofs.Writing.{absent-octets, condition-source}
use Rattle.request_writer.proofs.put_condition.Goals as goal

pub returns-then-n-eq0 : goal.returns-then-n-eq0
returns-then-n-eq0 c =
    let a = c.args in
    let o = absent-octets a.ty a.id a.c (sym c.condition_length-n.ensures.0 ∙ c.if-n-eq0.true) in
    record {
      length = sym (ap length o);
      put = sym (ap (λ (x : List ℕ). onto x a.buf.now) o);
    }

pub copy-requires : goal.copy-requires
unfolding spelt
copy-requires c = let a = c.args in
    let long : length a.c.octets ≡ 8 = search rules in
    let e = condition-source a.ty a.id a.c c.condition_length-n.result c.if-n-eq0.false long c.condition_length-n.ensures.0 in
    omega (arith, ap length e, c.requires.1)

pub returns : goal.returns
unfolding spelt
returns c =
    let a = c.args in
    let long : length a.c.octets ≡ 8 = search rules in
    let e = condition-source a.ty a.id a.c c.condition_length-n.result c.if-n-eq0.false long c.condition_length-n.ensures.0 in
    record {
      length = c.copy.ensures.value ∙ ap length e;
      put = copied _ _ a.buf.now c.copy.new.buf e c.copy.ensures.after;
    }
