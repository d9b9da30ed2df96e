-- `texts::spell` meets its contract. The invariant, `Spelling`: what is spelt from here on, in front of the digits that are there,
-- is the number. Assumes nothing.
use Rattle.texts.specs.Text.{decimal}
use Rattle.texts.proofs.NumberLaws.{Spelling}
use Rattle.texts.proofs.spell.Given as goal

abbrev pub invariant-loop-i : goal.invariant-loop-i
invariant-loop-i l = Spelling (decimal l.digits l.n) l.text l.i l.least l.rest
