-- `texts::Text::hexes` meets its contract. The invariant, `Lining`: the octets before this one are written.
-- Assumes nothing.
use Rattle.std.proofs.Common.{ℕ, ◌+◌, length}
use Rattle.texts.specs.Text.{hexed}
use Rattle.texts.proofs.PutLaws.{Lining}
use Rattle.texts.proofs.Text.hexes.Given as goal

abbrev pub invariant-loop-x : goal.invariant-loop-x
invariant-loop-x g l = Lining {P = ℕ} g.row.N (hexed l.name) (length l.name + 2) l.o l.initial.self l.self l.x-index
