-- `texts::Text::put` meets its contract.
-- Assumes nothing.
use Rattle.texts.proofs.PutLaws.{put_tried}
use Rattle.texts.proofs.Text.put.Goals as goal

pub returns : goal.returns
returns g c = let t = c.try_extend_from_slice.ensures in rw (← c.self.view_is) (put_tried _ _ _ _ c.try_extend_from_slice.result t.variant t.ok t.err)
