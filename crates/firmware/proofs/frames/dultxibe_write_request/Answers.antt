-- `firmware::frames::dultxibe_write_request` meets its contract.
-- Assumes nothing.
use Rattle.std.proofs.Common.{◌≡◌, sym, ap, ◌∙◌, map, length, take, rules}
use Rattle.std.proofs.Math.ListN.{length-map}
use Rattle.std.proofs.lemmas.List.{take-map}
use Rattle.laws.proofs.Arrays.{length_mapped}
use Rattle.octets.specs.Numbers.{kind_of}
use Rattle.octets.specs.declared.numbers.Kind.{Kind}
use Rattle.requests.specs.Elements.{element_capacity}
use Rattle.request_writer.specs.Writer.{write_request}
use Rattle.firmware.specs.Numbers.{element_from, numbered_write}
use Rattle.firmware.proofs.Laws.{write-first}
use Rattle.firmware.proofs.frames.dultxibe_write_request.Goals as goal

pub returns : goal.returns
returns c = let q = c.args.q in
    let given = c.elements_of-elements in
    let all = map element_from q.elements in
    let asked : length q.elements ≡ element_capacity = search (rules, c.well_formed, length_mapped) in
    let eight : length given.result ≡ element_capacity = search (rules, given.type_inv, length_mapped) in
    let first : take q.count given.result ≡ take q.count all = given.ensures ∙ sym (take-map element_from q.count q.elements) in
    rw c.from-2.ensures
    (ap numbered_write
    (c.write_request.ensures
    ∙ ap (λ (k : Kind). write_request k q.dialog given.result q.count c.args.buf.now) c.from.ensures
    ∙ write-first (kind_of q.kind) q.dialog given.result all q.count eight (length-map q.elements element_from ∙ asked) first c.args.buf.now))
