-- `request_writer::echo` meets its contract: the round trip, for what the code holds.
-- Assumes nothing.
use Rattle.std.proofs.Common.{◌≡◌, refl, sym, ap, ◌∙◌, arith, length, replicate, length-take-le, rules}
use Rattle.requests.specs.Elements.{element_capacity}
use Rattle.laws.proofs.Arrays.{length_mapped}
use Rattle.request_writer.specs.Writer.{WriteOutcome}
use Rattle.request_writer.proofs.Shapes.{shaped}
use Rattle.request_writer.specs.Writer.{written}
use Rattle.request_writer.proofs.Writing.{written-length}
use Rattle.request_writer.proofs.RoundTrip.{answer_bounded, echo_read}
use Rattle.request_writer.proofs.echo.Goals as goal

pub slice_bounds-buf-end : goal.slice_bounds-buf-end
slice_bounds-buf-end c = let a = c.args in
    let shapes = shaped a.q.elements _ c.well_formed.0.1.1.1.1.1.0.1.1 in
    let eight : length a.q.elements ≡ element_capacity = search (rules, length_mapped) in
    let long : length c.write_request.new.buf ≡ 267 = search rules in
    let len = c.unwrap_or-n.ensures ∙ written-length c.write_request.result in
    omega (arith, len, long, (answer_bounded a.q.kind a.q.dialog a.q.elements a.q.count shapes eight 267).most, ap (λ (o : WriteOutcome). o.answer.length) c.write_request.ensures)

pub slice_bounds-read_request-end : goal.slice_bounds-read_request-end
slice_bounds-read_request-end c = let a = c.args in
    let shapes = shaped a.q.elements _ c.well_formed.0.1.1.1.1.1.0.1.1 in
    let eight : length a.q.elements ≡ element_capacity = search (rules, length_mapped) in
    let long : length c.write_request.new.buf ≡ 267 = search rules in
    let len = c.unwrap_or-n.ensures ∙ written-length c.write_request.result in
    sym (length-take-le _ _ (omega (arith, len, long, (answer_bounded a.q.kind a.q.dialog a.q.elements a.q.count shapes eight 267).most, ap (λ (o : WriteOutcome). o.answer.length) c.write_request.ensures)))

pub returns : goal.returns
returns c = let a = c.args in
    let shapes = shaped a.q.elements _ c.well_formed.0.1.1.1.1.1.0.1.1 in
    let eight : length a.q.elements ≡ element_capacity = search (rules, length_mapped) in
    echo_read a.q.kind a.q.dialog a.q.elements a.q.count shapes eight (replicate 267 0) c.write_request.new.buf (written c.write_request.result) _ refl c.write_request.ensures (rw (← c.unwrap_or-n.ensures ∙ written-length c.write_request.result) c.read_request.ensures)
