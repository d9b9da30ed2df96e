-- `report_reader::decoders::peer_link_in` meets its contract: its body is read of as many octets as it has.
-- Assumes nothing.
use Rattle.std.proofs.Common.{◌≡◌, ap, ◌∙◌, length, rules}
use Rattle.octets.specs.Fields.{octets_at}
use Rattle.report_reader.proofs.DecoderLaws.{peer_link-read}
use Rattle.report_reader.proofs.decoders.peer_link_in.Goals as goal

pub returns : goal.returns
returns c = let l : length c.pad.new.blank ≡ 13 = search rules in
    let a = c.args in
    let body = c.whole_of-body.ensures ∙ ap (octets_at _ 0) l ∙ ap (λ s. octets_at s 0 13) c.body_in-rest.ensures in
    rw (c.peer_of.ensures, c.class_of.ensures, c.channel_of.ensures, c.power_of.ensures, c.connection_of.ensures, c.status_of.ensures)
    (peer_link-read a.form a.o.now _ _ c.times_in.ensures body)
