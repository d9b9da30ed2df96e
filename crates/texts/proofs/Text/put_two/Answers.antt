-- `texts::Text::put_two` meets its contract.
-- Assumes nothing.
use Rattle.std.proofs.Common.{sym, arith, length-append}
use Rattle.texts.proofs.PutLaws.{put-short, put_two}
use Rattle.texts.proofs.Text.put_two.Goals as goal

pub returns-then-room-front : goal.returns-then-room-front
returns-then-room-front g c = sym (put-short _ _ _ (simp length-append (omega arith)))

pub returns-then-room-front-2 : goal.returns-then-room-front-2
returns-then-room-front-2 g c = sym (put-short _ _ _ (simp length-append (omega arith)))

pub returns : goal.returns
returns g c = put_two _ _ _ _ _ _ (simp length-append (omega arith)) c.put.ensures c.put-2.ensures
