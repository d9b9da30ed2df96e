-- `texts::Text::element_head` meets its contract.
-- Assumes nothing.
use Rattle.texts.specs.Text.{element_head}
use Rattle.texts.proofs.PutLaws.{short, both}
use Rattle.texts.proofs.Text.element_head.Goals as goal

pub returns : goal.returns
unfolding element_head
returns g c = both (both (short c.field.ensures) (short c.field-2.ensures)) (short c.field-3.ensures)
