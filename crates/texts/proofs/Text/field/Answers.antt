-- `texts::Text::field` meets its contract.
-- Assumes nothing.
use Rattle.texts.proofs.NumberLaws.{named_put}
use Rattle.texts.proofs.Text.field.Goals as goal

pub returns : goal.returns
returns g c = rw (← c.wide.ensures.same) (named_put _ _ _ _ _ _ c.wide.ensures.few g.met.T.Number.some c.number.ensures)
