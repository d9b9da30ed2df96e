-- Document 02 (c), "Premise: successive calls lie less than one turn apart": elapsed time is then true time since the first call. Its
-- proof is in proofs/Premise.antt.
-- Assumes nothing.
use Rattle.std.specs.Prelude.{ℕ, ◌+◌, ◌-◌, ◌%◌, ◌≤◌, ◌<◌, min, ◌≡◌, List, [], ◌∷◌, map}
use Rattle.units.specs.Time.{turn, elapsed_top}
use Rattle.model.specs.Clocks.{elapsed_clock}
use Rattle.model.specs.Model.{Capacities, Listed, Call}
use Rattle.model.specs.Stations.{setup, reading_of}
use Rattle.model.specs.Runs.{run}

-- true times behind t, each less than a turn after the one before it
unfoldable pub LessThanTurnApart : ℕ → List ℕ → Type 0
LessThanTurnApart t [] = Unit {0}
LessThanTurnApart t (u ∷ us) = (t ≤ u) × (u < t + turn) × LessThanTurnApart u us

unfoldable pub latest : ℕ → List ℕ → ℕ
latest t [] = t
latest t (u ∷ us) = latest u us

-- calls at the true times t and ts, at which the counter shows the true time modulo a turn
abbrev pub ElapsedIsTrue : Type 0
ElapsedIsTrue =
    (most : Capacities) (i : List ℕ) (l : List Listed) (cs : List Call) (t : ℕ) (ts : List ℕ) → LessThanTurnApart t ts
    → map reading_of cs ≡ map (λ u. u % turn) (t ∷ ts)
    → (run elapsed_clock most (setup most i l).station cs).timer.now ≡ min elapsed_top (latest t ts - t)
