-- `report_reader::decoders::transition_in` meets its contract: its body is read of as many octets as it has.
-- Assumes nothing.
use Rattle.std.proofs.Common.{◌≡◌, ap, ◌∙◌, length, rules}
use Rattle.octets.specs.Fields.{octets_at}
use Rattle.report_reader.proofs.DecoderLaws.{transition-read}
use Rattle.report_reader.proofs.decoders.transition_in.Goals as goal

pub returns : goal.returns
returns c = let l : length c.pad.new.blank ≡ 21 = search rules in
    let a = c.args in
    let body = c.whole_of-body.ensures ∙ ap (octets_at _ 0) l ∙ ap (λ s. octets_at s 0 21) c.body_in-rest.ensures in
    rw (c.source_of.ensures, c.target_of.ensures, c.took_of.ensures, c.reason_of.ensures, c.result_of.ensures, c.signals_of.ensures)
    (transition-read a.form a.o.now _ _ c.times_in.ensures body)
