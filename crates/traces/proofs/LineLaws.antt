-- Laws of lines: a text that is short enough is a whole line, written at once; a lent buffer.
-- Assumes nothing.
use Rattle.std.proofs.Common.{ℕ, ◌≡◌, ◌≤◌, List, [], arith}
use Rattle.texts.specs.Text.{Puts}
use Rattle.texts.proofs.PutLaws.{at_most, whole}
use Rattle.traces.specs.Lines.{line_most}

pub whole_line : {most : ℕ} {o s y : List ℕ} → s ≡ [] → Puts line_most most o s y → most ≤ line_most → y ≡ o
whole_line empty p h = (whole empty (at_most line_most h p) (omega arith)).0
