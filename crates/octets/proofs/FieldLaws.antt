-- Laws of two-octet fields: reading undoes writing, and writing undoes reading.
-- Assumes nothing.
use Rattle.std.proofs.Common.{ℕ, ◌<◌, ◌≡◌, arith}
use Rattle.octets.specs.Fields.{pair, low, high}

pub pair_halves : (x : ℕ) → pair (low x) (high x) ≡ x
pair_halves x = omega arith

module _ (least most : ℕ) (h : least < 256) where
  pub low-pair : low (pair least most) ≡ least
  low-pair = omega arith

  pub high-pair : high (pair least most) ≡ most
  high-pair = omega arith
