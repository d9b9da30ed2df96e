-- `texts::spell` meets its contract. The invariant, `Spelling`: what is spelt from here on, in front of the digits that are there,
-- is the number. Assumes nothing.
use Rattle.std.proofs.Common.{◌≡◌, sym, ap, ◌∙◌, [], arith, length, drop, rules, drop_of_length-le}
use Rattle.texts.specs.Text.{decimal, spell}
use Rattle.texts.proofs.NumberLaws.{spelling_last, spelling_next, spelling_all}
use Rattle.texts.proofs.spell.Goals as goal

pub loop-i-init : goal.loop-i-init
unfolding decimal
loop-i-init c = let l : length c.args.text.now ≡ 20 = search rules in
    let none : drop 20 c.args.text.now ≡ [] = drop_of_length-le c.args.text.now {i = 20} (omega (arith, l)) in
    record { places = l; within = omega arith; same = ap (spell 20 c.args.digits c.args.n) none }

pub returns-then-is_first-clause-text : goal.returns-then-is_first-clause-text
returns-then-is_first-clause-text c = rw (← c.digit.ensures) at (spelling_last c.loop-i.invariant c.loop-i-test.true (sym c.is_first.ensures ∙ c.if-is_first.true))

pub loop-i-preserved : goal.loop-i-preserved
loop-i-preserved c = rw (c.digit.ensures, c.saturating_sub-least.ensures) (spelling_next c.loop-i.invariant c.loop-i-test.true (sym c.is_first.ensures ∙ c.if-is_first.false))

pub returns-clause-text : goal.returns-clause-text
returns-clause-text c = spelling_all c.loop-i.invariant (omega (arith, c.loop-i-test.false))
