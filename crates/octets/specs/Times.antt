-- Document 01: the nine octets of time, and cause 14.
-- Assumes nothing.
use Rattle.std.specs.Prelude.{ℕ, Bool, true, false, not, List, leb, ltb, eqb, get_or}
use Rattle.laws.specs.Choice.{when◌then◌else◌}
use Rattle.octets.specs.Fields.{pair_at, octets_at}

-- "Each time field is in its range .. or all ones, which means unknown."
unfoldable pub in_range : ℕ → ℕ → ℕ → ℕ → Bool
in_range least most ones x =
    when eqb x ones then true
    else when ltb x least then false
    else leb x most

unfoldable pub good_date : ℕ → ℕ → Bool
good_date day month = when not (in_range 1 31 255 day) then false else in_range 1 12 255 month

unfoldable pub good_clock : ℕ → ℕ → ℕ → Bool
good_clock second minute hour =
    when not (in_range 0 59 255 second) then false
    else when not (in_range 0 59 255 minute) then false
    else in_range 0 23 255 hour

-- "milliseconds 2, second, minute, hour, day, month, year 2"; every year is in its range or all ones
unfoldable pub good_time : List ℕ → Bool
good_time t =
    when not (in_range 0 999 65535 (pair_at t 0)) then false
    else when not (good_clock (get_or t 2 0) (get_or t 3 0) (get_or t 4 0)) then false
    else good_date (get_or t 5 0) (get_or t 6 0)

-- the nine octets at a position
abbrev pub time_at : List ℕ → ℕ → List ℕ
time_at s at = octets_at s at 9
