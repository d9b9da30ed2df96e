-- `texts::Text::refusal` meets its contract.
-- Assumes nothing.
use Rattle.std.proofs.Common.{◌∙◌}
use Rattle.texts.proofs.Text.refusal.Goals as goal

pub returns : goal.returns
returns g c = let e = c.octets.ensures.value ∙ c.refusal_line-line.ensures in record { short = rw (← e) c.octets.ensures.fits; does = rw (← e) c.put.ensures }
