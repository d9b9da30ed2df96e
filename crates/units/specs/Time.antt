-- Document 01, "Clock and transition time": ages across the rollover, and TUs; document 02 (c): elapsed time.
-- Assumes nothing.
use Rattle.std.specs.Prelude.{ℕ, ◌+◌, ◌-◌, ◌*◌, ◌/◌, ◌%◌, min, Bool, nat_le, nat_lt}

-- "A counter reading is a number of milliseconds below 4,294,967,296."
abbrev pub turn : ℕ
turn = 4294967296

-- "The age between two readings is their difference modulo that number." A natural number has no sign: a turn is added before earlier is
-- taken off, which the remainder takes away again.
abbrev pub age : ℕ → ℕ → ℕ
age later earlier = (later + turn - earlier) % turn

-- Document 02 (c): "elapsed milliseconds in 64 bits": the top of them
abbrev pub elapsed_top : ℕ
elapsed_top = 18446744073709551615

-- "advanced .. by the reading's difference from the call before, staying at the top if it would pass it"
abbrev pub advance : ℕ → ℕ → ℕ
advance elapsed by = min elapsed_top (elapsed + by)

-- the age between two elapsed times is their plain difference; 0 where earlier is not the earlier one
abbrev pub elapsed_since : ℕ → ℕ → ℕ
elapsed_since later earlier = later - earlier

-- an age is "more than" a limit
abbrev pub exceeds : ℕ → ℕ → Bool
exceeds a limit = nat_lt limit a

-- "An age of m milliseconds is m times 125 divided by 128 TUs, rounded down, and 65,535 if that is more (house)."
abbrev pub tus_of : ℕ → ℕ
tus_of m = min (m * 125 / 128) 65535

-- "transition time at or above the threshold"
abbrev pub at_least : ℕ → ℕ → Bool
at_least time threshold = nat_le threshold time
