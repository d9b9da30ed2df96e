-- Document 02 (c): "old and new answers agree as long as no age taken has reached a turn". Its proof is in proofs/Agreement.antt.
-- Assumes nothing.
use Rattle.std.specs.Prelude.{ℕ, ◌<◌, ◌≡◌, List, [], ◌∷◌}
use Rattle.units.specs.Time.{turn, elapsed_since}
use Rattle.model.specs.Clocks.{Clock, counter_clock, elapsed_clock}
use Rattle.model.specs.Model.{Capacities, Listed, Station, Call}
use Rattle.model.specs.Stations.{setup, reading_of, step}
use Rattle.model.specs.Ages.{EachAge}
use Rattle.model.specs.Runs.{Always, Reply, reply}
use Rattle.model.specs.Independence.{BelowTop}

-- what every call of a list is answered
unfoldable pub replies : Clock → Capacities → Station → List Call → List Reply
replies k most g [] = []
replies k most g (c ∷ cs) = reply k most g c ∷ replies k most (step k most g c).station cs

-- "A counter reading is a number of milliseconds below 4,294,967,296"; the elapsed time is short of its top; and no age that the new gate
-- takes has reached a turn
abbrev pub Young : Station → Call → Type 0
Young g c = (reading_of c < turn) × BelowTop g c × EachAge (λ later earlier. elapsed_since later earlier < turn) g c

abbrev pub OldAndNewAgree : Type 0
OldAndNewAgree =
    (most : Capacities) (i : List ℕ) (l : List Listed) (cs : List Call) → Always Young elapsed_clock most (setup most i l).station cs
    → replies counter_clock most (setup most i l).station cs ≡ replies elapsed_clock most (setup most i l).station cs
