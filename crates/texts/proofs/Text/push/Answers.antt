-- `texts::Text::push` meets its contract.
-- Assumes nothing.
use Rattle.std.proofs.Common.{arith}
use Rattle.texts.proofs.PutLaws.{put_tried}
use Rattle.texts.proofs.Text.push.Goals as goal

pub returns : goal.returns
returns g c = let t = c.try_push.ensures in
    rw (← c.self.view_is) (put_tried _ _ _ _ c.try_push.result (λ e. omega (arith, t.variant.0 e), λ h. t.variant.1 (omega (arith, h))) t.ok t.err)
