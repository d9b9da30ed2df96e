-- `report_reader::decoders::rsna_in` meets its contract: its fields up to the RSN element are read of as many octets as they have at most.
-- Assumes nothing.
use Rattle.std.proofs.Common.{◌≡◌, ap, ◌∙◌, length, rules}
use Rattle.octets.specs.Fields.{octets_at}
use Rattle.events.specs.RsnaEvents.{rsn_element_of}
use Rattle.report_reader.proofs.DecoderLaws.{rsna-read}
use Rattle.report_reader.proofs.decoders.rsna_in.Goals as goal

pub returns : goal.returns
returns c = let l : length c.pad.new.blank ≡ 19 = search rules in
    let a = c.args in
    let is = c.body_in-body.ensures in
    let fields = c.whole_of-fields.ensures ∙ ap (octets_at _ 0) l ∙ ap (λ s. octets_at s 0 19) is in
    let element = c.rsn_of-element.ensures ∙ ap rsn_element_of is in
    rw (c.target_of.ensures, c.authentication_of.ensures, c.method_of.ensures, c.result_of.ensures)
    (rsna-read a.form a.o.now _ _ c.times_in.ensures fields _ _ element c.rsn_places.ensures)
