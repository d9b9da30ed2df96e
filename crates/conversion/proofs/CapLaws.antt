-- The cap without a jump: products by 0 and 1 in place of a choice.
-- Assumes nothing.
use Rattle.std.proofs.Common.{◌≡◌, ℕ, zero, suc, ◌+◌, ◌-◌, ◌*◌, ◌/◌, ◌%◌, ◌^◌, ◌<◌, ◌≤◌, min, refl, arith}

-- of a quotient q below 2^32: over is 1 where q passes 65,535 and 0 elsewhere, so that one of the two products is 0
capped : (q over : ℕ) → q ≤ 4294967295 → over ≡ (q / 65536 + 65535) / 65536 → q % 65536 * (1 - over) + 65535 * over ≡ min q 65535
capped q zero h e = omega arith
capped q (suc zero) h e = omega arith
capped q (suc (suc over)) h e = omega arith

-- the same of an age, as the code computes it
pub capped_age : (m : ℕ) → m < 2 ^ 32
    → m * 125 / 128 % 65536 * (1 - (m * 125 / 128 / 65536 + 65535) / 65536) + 65535 * ((m * 125 / 128 / 65536 + 65535) / 65536) ≡ min (m * 125 / 128) 65535
capped_age m h = capped (m * 125 / 128) _ (omega arith) refl
