-- Clocks: how the time of a call comes about, and how an age is taken. Document 01's gate and that of document 02 (c) have one each, and
-- all else in common.
-- Assumes nothing.
use Rattle.std.specs.Prelude.{ℕ}
use Rattle.std.proofs.Math.Option.{Option, none, some}
use Rattle.units.specs.Time.{age, advance, elapsed_since}

-- the reading of the latest call, none before the first one, and the time of that call
pub record Timer : Type 0 where
  pub last : Option ℕ
  pub now : ℕ

-- a gate before its first call
abbrev pub unset : Timer
unset = record { last = none; now = 0 }

pub record Clock : Type 0 where
  -- the time of a call, from the timer before it and its reading
  pub time : Timer → ℕ → ℕ
  -- the age between two times, the later one first
  pub since : ℕ → ℕ → ℕ

-- the timer at a call with a reading
abbrev pub advanced : Clock → Timer → ℕ → Timer
advanced k t reading = record { last = some reading; now = k.time t reading }

-- document 01: a time is a reading, and "the age between two readings is their difference modulo that number"
abbrev pub counter_clock : Clock
counter_clock = record { time = λ t reading. reading; since = age }

-- "advanced at every call by the reading's difference from the call before"; "The first call after setup is at zero."
unfoldable pub elapsed_at : Option ℕ → ℕ → ℕ → ℕ
elapsed_at none now reading = 0
elapsed_at (some last) now reading = advance now (age reading last)

-- document 02 (c): "the gate keeps elapsed milliseconds"
abbrev pub elapsed_clock : Clock
elapsed_clock = record { time = λ t reading. elapsed_at t.last t.now reading; since = elapsed_since }
