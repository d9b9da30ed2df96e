-- `subelements::walk` meets its contract. The invariant, `Walking`: what is left of the walk gives what the whole walk gives.
-- Assumes nothing.
use Rattle.std.proofs.Common.{refl, arith}
use Rattle.octets.proofs.ElementLaws.{at_place, no_place}
use Rattle.subelements.proofs.Laws.{walking_start, walking_end, moves, refused_edge, passed_over, known, within, refused-length, refused_repeat, held}
use Rattle.subelements.proofs.walk.Goals as goal

pub loop-w-init : goal.loop-w-init
loop-w-init c = rw c.walk_from-w.ensures (walking_start _ _ _ _)

pub returns-in_default : goal.returns-in_default
returns-in_default c = refused_edge c.loop-w.invariant c.loop-w-test.true (no_place c.in_default.ensures) refl (rw c.at.ensures)

pub overflow_add-at : goal.overflow_add-at
overflow_add-at c = omega (arith, within c.loop-w.invariant c.loop-w-test.true (at_place c.in-Some.ensures).is (at_place c.in-Some.ensures).some refl)

pub loop-w-smaller-then-want-eq0 : goal.loop-w-smaller-then-want-eq0
loop-w-smaller-then-want-eq0 c = moves c.loop-w.invariant c.loop-w-test.true (at_place c.in-Some.ensures).is (at_place c.in-Some.ensures).some

pub loop-w-preserved-then-want-eq0 : goal.loop-w-preserved-then-want-eq0
loop-w-preserved-then-want-eq0 c = passed_over c.loop-w.invariant c.loop-w-test.true (at_place c.in-Some.ensures).is (at_place c.in-Some.ensures).some c.size-id.ensures.0 c.octet.ensures c.length_of-want.ensures c.if-want-eq0.true

pub returns-then-n-want : goal.returns-then-n-want
returns-then-n-want c = refused-length c.loop-w.invariant c.loop-w-test.true (at_place c.in-Some.ensures).is (at_place c.in-Some.ensures).some c.size-id.ensures.0 c.octet.ensures c.length_of-want.ensures c.if-want-eq0.false c.size-n.ensures.0 c.if-n-want.true (rw c.at-then-n-want.ensures)

pub returns-then-old : goal.returns-then-old
returns-then-old c = refused_repeat c.loop-w.invariant c.loop-w-test.true (at_place c.in-Some.ensures).is (at_place c.in-Some.ensures).some c.size-id.ensures.0 c.octet.ensures c.length_of-want.ensures c.if-want-eq0.false c.size-n.ensures.0 c.if-n-want.false c.if-old.true (rw c.at-then-old.ensures)

pub bounds-w-id-in-loop-w : goal.bounds-w-id-in-loop-w
bounds-w-id-in-loop-w c = omega (arith, c.loop-w.invariant.five, known c.loop-w.invariant c.loop-w-test.true (at_place c.in-Some.ensures).is (at_place c.in-Some.ensures).some c.size-id.ensures.0 c.octet.ensures c.length_of-want.ensures c.if-want-eq0.false)

pub loop-w-smaller : goal.loop-w-smaller
loop-w-smaller c = moves c.loop-w.invariant c.loop-w-test.true (at_place c.in-Some.ensures).is (at_place c.in-Some.ensures).some

pub loop-w-preserved : goal.loop-w-preserved
loop-w-preserved c = held c.loop-w.invariant c.loop-w-test.true (at_place c.in-Some.ensures).is (at_place c.in-Some.ensures).some c.size-id.ensures.0 c.octet.ensures c.length_of-want.ensures c.if-want-eq0.false c.size-n.ensures.0 c.if-n-want.false c.if-old.false c.body.ensures

pub returns : goal.returns
returns c = walking_end c.loop-w.invariant c.loop-w-test.false
