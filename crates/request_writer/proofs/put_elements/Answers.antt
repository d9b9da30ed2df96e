-- `request_writer::put_elements` meets its contract. The invariant, `Laying`: the elements before this one stand at the front, and their tokens are good.
-- Assumes nothing.
use Rattle.std.proofs.Common.{sym, ◌∙◌, rules}
use Rattle.laws.proofs.Arrays.{length_mapped}
use Rattle.request_writer.proofs.Writing.{laying_start, laying_bad, laying_next, laying_ninth, laying_end}
use Rattle.request_writer.proofs.put_elements.Goals as goal

pub loop-i-init : goal.loop-i-init
loop-i-init c = laying_start _ _ _ _ (search (rules, length_mapped)) c.told-buf

pub returns-then-i-ge-ELEMENT_CAPACITY-clause-answer : goal.returns-then-i-ge-ELEMENT_CAPACITY-clause-answer
returns-then-i-ge-ELEMENT_CAPACITY-clause-answer c = rw c.at.ensures (laying_ninth c.loop-i.invariant c.loop-i-test.true c.if-i-ge-ELEMENT_CAPACITY.true)

pub returns-then-bad_token-clause-answer : goal.returns-then-bad_token-clause-answer
returns-then-bad_token-clause-answer c = rw c.at-then-bad_token.ensures (laying_bad c.loop-i.invariant c.loop-i-test.true c.if-i-ge-ELEMENT_CAPACITY.false (sym c.bad_token.ensures ∙ c.if-bad_token.true))

pub loop-i-preserved : goal.loop-i-preserved
loop-i-preserved c = let l = c.loop-i.invariant in
    laying_next l c.loop-i-test.true c.if-i-ge-ELEMENT_CAPACITY.false c.put_element-at.result c.put_element-at.new.buf (sym c.bad_token.ensures ∙ c.if-bad_token.false) c.put_element-at.ensures.length.0 c.put_element-at.ensures.length.1 c.put_element-at.ensures.put

pub returns-clause-answer : goal.returns-clause-answer
returns-clause-answer c = laying_end c.loop-i.invariant c.loop-i-test.false
