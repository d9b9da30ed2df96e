-- `traces::calls::fields` meets its contract.
-- Assumes nothing.
use Rattle.std.proofs.Common.{◌≡◌, refl, ◌+◌, ℕ, Bool, true, false, leb, leb-true, leb-false, length, arith}
use Rattle.laws.specs.Choice.{when◌then◌else◌}
use Rattle.traces.specs.Records.{fields_of}
use Rattle.traces.proofs.calls.fields.Goals as goal

pub returns : goal.returns
unfolding fields_of when◌then◌else◌
returns c = (go (leb n at) refl, omega (arith, c.min.ensures))
  where
    n : ℕ
    n = length c.args.s.now

    at : ℕ
    at = c.args.at

    go : (b : Bool) → leb n at ≡ b → c.min.result ≡ (when b then n else at + 1)
    go true e = let h = leb-true n at e in omega (arith, c.min.ensures, c.saturating_add.ensures, c.well_formed)
    go false e = let h = leb-false n at e in omega (arith, c.min.ensures, c.saturating_add.ensures, c.well_formed)
