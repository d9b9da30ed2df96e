-- `request_writer::write_request` meets its contract: the elements are laid out in an array of their own, so that a refused call writes none.
-- Assumes nothing.
use Rattle.std.proofs.Common.{◌-◌, refl, sym, ap, ◌∙◌, arith}
use Rattle.std.proofs.lemmas.Result.{err_from_is_err_and}
use Rattle.octets.proofs.RefusalLaws.{some_number}
use Rattle.request_writer.specs.Writer.{frame_answer}
use Rattle.request_writer.proofs.Writing.{short, no_dialog, answered, unframed, with-elements, without-elements, nothing_written, frame-written, lasts, frame-put}
use Rattle.request_writer.proofs.write_request.Goals as goal

pub returns-then-buf-lt-REQUEST_BUFFER : goal.returns-then-buf-lt-REQUEST_BUFFER
returns-then-buf-lt-REQUEST_BUFFER c = let a = c.args in
    rw c.at.ensures (nothing_written a.q.kind a.q.dialog a.q.elements a.q.count a.buf.now _ (short _ _ _ _ a.buf.now c.if-buf-lt-REQUEST_BUFFER.true) (λ z. omega (arith, z)))

pub returns-then-q-eq0 : goal.returns-then-q-eq0
returns-then-q-eq0 c = let a = c.args in
    rw c.at-then-q-eq0.ensures (nothing_written a.q.kind a.q.dialog a.q.elements a.q.count a.buf.now _ (no_dialog _ _ _ _ a.buf.now c.if-buf-lt-REQUEST_BUFFER.false c.if-q-eq0.true) (λ z. omega (arith, z)))

pub returns-in_err-length : goal.returns-in_err-length
returns-in_err-length c = let a = c.args in
    let p = err_from_is_err_and c.from_residual.result c.from_residual.ensures.1 in
    let n = some_number c.in_err-length.field-0.0.cause in
    let answer = unframed a.q.kind a.q.dialog a.q.elements a.q.count a.buf.now _ n ∙ ap (frame_answer a.q.kind a.q.count) c.in_err-length.ensures.answer ∙ answered a.q.kind a.q.dialog a.q.elements a.q.count a.buf.now c.if-buf-lt-REQUEST_BUFFER.false c.if-q-eq0.false in
    rw (p.1, p.2) (nothing_written a.q.kind a.q.dialog a.q.elements a.q.count a.buf.now _ answer n)

pub returns-then-lacks_element : goal.returns-then-lacks_element
returns-then-lacks_element c = let a = c.args in
    let none = sym c.lacks_element.ensures ∙ c.if-lacks_element.true in
    let answer = without-elements a.q.kind a.q.dialog a.q.elements a.q.count a.buf.now _ none ∙ ap (frame_answer a.q.kind a.q.count) c.in_ok-length.ensures.answer ∙ answered a.q.kind a.q.dialog a.q.elements a.q.count a.buf.now c.if-buf-lt-REQUEST_BUFFER.false c.if-q-eq0.false in
    rw c.at-then-lacks_element.ensures (nothing_written a.q.kind a.q.dialog a.q.elements a.q.count a.buf.now _ answer (λ z. omega (arith, z)))

pub overflow_sub-n : goal.overflow_sub-n
overflow_sub-n c = let a = c.args in
    let some = with-elements a.q.kind a.q.dialog a.q.elements a.q.count a.buf.now c.in_ok-length.length (sym c.lacks_element.ensures ∙ c.if-lacks_element.false) in
    omega (arith, lasts a.q.kind a.q.elements a.q.count _ _ c.in_ok-length.ensures.answer some refl)

pub returns : goal.returns
returns c = let a = c.args in
    let is = c.in_ok-length.ensures.answer in
    let some = with-elements a.q.kind a.q.dialog a.q.elements a.q.count a.buf.now _ (sym c.lacks_element.ensures ∙ c.if-lacks_element.false) in
    let answer = some ∙ ap (frame_answer a.q.kind a.q.count) is ∙ answered a.q.kind a.q.dialog a.q.elements a.q.count a.buf.now c.if-buf-lt-REQUEST_BUFFER.false c.if-q-eq0.false in
    let l = lasts a.q.kind a.q.elements a.q.count _ _ is some refl in
    frame-written a.q.kind a.q.dialog a.q.elements a.q.count a.buf.now _ answer refl _
    (frame-put a.q.kind a.q.dialog a.q.elements a.q.count (c.in_ok-length.length - 3) a.buf.now c.put_elements.new.buf _ c.if-buf-lt-REQUEST_BUFFER.false (omega (arith, l)) (omega (arith, c.in_ok-length.ensures.fits))
    (c.in_ok-length.ensures.put refl) _ _ _ _ (rw c.request_action.ensures at c.put.ensures) c.put-2.ensures)
