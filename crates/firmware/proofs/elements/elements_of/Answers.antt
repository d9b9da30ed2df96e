-- `firmware::elements::elements_of` meets its contract.
-- Assumes nothing.
use Rattle.std.proofs.Common.{◌≡◌, ◌∙◌, length, length-set, arith, rules}
use Rattle.laws.proofs.Arrays.{column_next}
use Rattle.requests.specs.Elements.{element_capacity, blank_elements}
use Rattle.firmware.specs.Numbers.{element_from}
use Rattle.firmware.proofs.Laws.{past_given, first_made}
use Rattle.firmware.proofs.elements.elements_of.Goals as goal

pub loop-i-preserved : goal.loop-i-preserved
loop-i-preserved c = let l = c.loop-i in
    let on = c.loop-i-test.true in
    let eight : length c.args.es.now ≡ element_capacity = search (rules, c.told-es) in
    (length-set l.elements l.i _ ∙ l.invariant.0, rw c.from.ensures (column_next element_from c.args.es.now blank_elements l.elements l.i past_given (omega (arith, c.min-i-end.ensures)) (omega (arith, c.min-i-end.ensures)) l.invariant.1))

pub returns : goal.returns
returns c = let l = c.loop-i in
    let eight : length c.args.es.now ≡ element_capacity = search (rules, c.told-es) in
    first_made element_from c.args.es.now l.elements _ c.args.count l.i element_capacity eight l.invariant.0 (omega (arith, c.min-i-end.ensures, c.loop-i-test.false, c.loop-i.auto.i-end)) l.invariant.1
