-- `requests::read_elements` meets its contract. The invariant, `Walking`: what is left of the walk gives what the whole walk gives.
-- Assumes nothing.
use Rattle.std.proofs.Common.{refl, ◌∙◌, arith}
use Rattle.octets.proofs.ElementLaws.{at_place, no_place}
use Rattle.octets.proofs.RefusalLaws.{some_number}
use Rattle.subelements.specs.Subelements.{accepted_walk}
use Rattle.requests.proofs.Laws.{walking_start, lacks, found, moves, refused_edge, passed_over, refused_ninth, within, refused-length, refused_token, refused-subelements, added, element_from}
use Rattle.requests.proofs.read_elements.Goals as goal

pub loop-next-init : goal.loop-next-init
loop-next-init c = rw c.blank_elements-elements.ensures (walking_start _ _)

pub returns-in_default : goal.returns-in_default
returns-in_default c = refused_edge c.loop-next.invariant _ c.loop-next-test.true (no_place c.in_default.ensures) refl (rw c.at.ensures)

pub loop-next-smaller-then-octet-request_id : goal.loop-next-smaller-then-octet-request_id
loop-next-smaller-then-octet-request_id c = moves c.loop-next.invariant 0 c.loop-next-test.true (at_place c.in-Some.ensures).is (at_place c.in-Some.ensures).some

pub loop-next-preserved-then-octet-request_id : goal.loop-next-preserved-then-octet-request_id
loop-next-preserved-then-octet-request_id c = passed_over c.loop-next.invariant 0 c.loop-next-test.true (at_place c.in-Some.ensures).is (at_place c.in-Some.ensures).some c.octet.ensures c.request_id.ensures c.if-octet-request_id.true

pub returns-then-n-ge-ELEMENT_CAPACITY : goal.returns-then-n-ge-ELEMENT_CAPACITY
returns-then-n-ge-ELEMENT_CAPACITY c = refused_ninth c.loop-next.invariant _ c.loop-next-test.true (at_place c.in-Some.ensures).is (at_place c.in-Some.ensures).some c.octet.ensures c.request_id.ensures c.if-octet-request_id.false c.if-n-ge-ELEMENT_CAPACITY.true (rw c.at-then-n-ge-ELEMENT_CAPACITY.ensures)

pub returns-then-size-least_body : goal.returns-then-size-least_body
returns-then-size-least_body c = refused-length c.loop-next.invariant _ c.loop-next-test.true (at_place c.in-Some.ensures).is (at_place c.in-Some.ensures).some c.octet.ensures c.request_id.ensures c.if-octet-request_id.false c.if-n-ge-ELEMENT_CAPACITY.false c.size.ensures.0 c.least_body.ensures c.if-size-least_body.true (rw c.at-then-size-least_body.ensures)

pub returns-then-bad_token : goal.returns-then-bad_token
returns-then-bad_token c = refused_token c.loop-next.invariant _ c.loop-next-test.true (at_place c.in-Some.ensures).is (at_place c.in-Some.ensures).some c.octet.ensures c.request_id.ensures c.if-octet-request_id.false c.if-n-ge-ELEMENT_CAPACITY.false c.size.ensures.0 c.least_body.ensures c.if-size-least_body.false c.octet-in-loop-next.ensures c.bad_token.ensures c.if-bad_token.true (rw c.at-then-bad_token.ensures)

pub subelements_of-requires : goal.subelements_of-requires
subelements_of-requires c = let n = c.size.ensures in
    omega (arith, within c.loop-next.invariant 0 c.loop-next-test.true (at_place c.in-Some.ensures).is (at_place c.in-Some.ensures).some n.0 n.1)

pub returns-in-Err : goal.returns-in-Err
returns-in-Err c = refused-subelements c.loop-next.invariant _ c.loop-next-test.true (at_place c.in-Some.ensures).is (at_place c.in-Some.ensures).some c.octet.ensures c.request_id.ensures c.if-octet-request_id.false c.if-n-ge-ELEMENT_CAPACITY.false c.size.ensures.0 c.least_body.ensures c.if-size-least_body.false c.octet-in-loop-next.ensures c.bad_token.ensures c.if-bad_token.false (rw c.in-Err.is at c.subelements_of.ensures.walked) (some_number _) refl

pub loop-next-smaller : goal.loop-next-smaller
loop-next-smaller c = moves c.loop-next.invariant 0 c.loop-next-test.true (at_place c.in-Some.ensures).is (at_place c.in-Some.ensures).some

pub loop-next-preserved : goal.loop-next-preserved
loop-next-preserved c = added c.loop-next.invariant 0 c.loop-next-test.true (at_place c.in-Some.ensures).is (at_place c.in-Some.ensures).some c.octet.ensures c.request_id.ensures c.if-octet-request_id.false c.if-n-ge-ELEMENT_CAPACITY.false c.size.ensures.0 c.least_body.ensures c.if-size-least_body.false c.octet-in-loop-next.ensures c.bad_token.ensures c.if-bad_token.false (rw c.in-Ok.is at c.subelements_of.ensures.walked) refl (c.element_of.ensures ∙ element_from _ _ _ (accepted_walk c.in-Ok.subs))

pub returns-then-lacks_element : goal.returns-then-lacks_element
returns-then-lacks_element c = lacks c.loop-next.invariant _ c.loop-next-test.false c.lacks_element.ensures c.if-lacks_element.true (rw c.at-then-lacks_element.ensures)

pub returns : goal.returns
returns c = rw c.octet-2.ensures (found c.loop-next.invariant _ c.loop-next-test.false c.lacks_element.ensures c.if-lacks_element.false)
