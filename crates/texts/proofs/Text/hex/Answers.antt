-- `texts::Text::hex` meets its contract.
-- Assumes nothing.
use Rattle.std.proofs.Common.{sym, [], ◌∷◌, ◌++◌, arith, length-append, append_assoc}
use Rattle.texts.specs.Text.{hex, hexed}
use Rattle.texts.proofs.PutLaws.{put-short, put_two}
use Rattle.texts.proofs.Text.hex.Goals as goal

pub returns-then-saturating_sub-lt2 : goal.returns-then-saturating_sub-lt2
unfolding hex hexed
returns-then-saturating_sub-lt2 g c = record { short = simp length-append (omega arith); does = sym (put-short _ _ _ (simp length-append (omega arith))) }

pub returns : goal.returns
unfolding hex hexed
returns g c = let name = c.args.name.now in
    let high = c.digit.result ∷ [] in
    let low = c.digit-2.result ∷ [] in
    let front = put_two g.row.N name high c.args.self.now _ _ (simp length-append (omega arith)) c.put.ensures c.push.ensures in
    let both = put_two g.row.N (name ++ high) low c.args.self.now _ _ (simp length-append (omega arith)) front c.push-2.ensures in
    record { short = simp length-append (omega arith); does = rw (← c.digit.ensures, ← c.digit-2.ensures) (rw (append_assoc name high low) at both) }
