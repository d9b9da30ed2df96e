-- Document 02 (j), "Order between consoles": calls at one reading whose order, or number, leaves no trace. Claims about every station, every
-- list of requesters and every reading; their proofs are in proofs/Order.antt.
-- Assumes nothing.
use Rattle.std.specs.Prelude.{ℕ, ◌≡◌, false, List, [], ◌∷◌}
use Rattle.octets.specs.Addresses.{same}
use Rattle.model.specs.Clocks.{elapsed_clock}
use Rattle.model.specs.Model.{Capacities, Address, Listed, Station, Call, frame, roam, change, accepted}
use Rattle.model.specs.Stations.{step}
use Rattle.model.specs.Runs.{run, reply}

-- two calls "lead to the same gate in either order, with the same answers": each is answered behind the other as it is without it
pub record Unordered (most : Capacities) (g : Station) (x y : Call) : Type 0 where
  pub same-station : run elapsed_clock most g (x ∷ y ∷ []) ≡ run elapsed_clock most g (y ∷ x ∷ [])
  pub same_first : reply elapsed_clock most (step elapsed_clock most g y).station x ≡ reply elapsed_clock most g x
  pub same_second : reply elapsed_clock most (step elapsed_clock most g x).station y ≡ reply elapsed_clock most g y

-- "two request frames from different consoles, taken at the same reading": listed or not, whatever their destinations and octets; "Refused
-- frames .. are included"
abbrev pub FramesUnordered : Type 0
FramesUnordered =
    (most : Capacities) (g : Station) (t : ℕ) (d e a b : Address) (o p : List ℕ) → same a b ≡ false → Unordered most g (frame t d a o) (frame t e b p)

-- "two equal network changes at one reading equal one": the station and both answers, of refused ones too
abbrev pub ChangesEqualOne : Type 0
ChangesEqualOne =
    (most : Capacities) (g : Station) (t : ℕ) (l : List Listed)
    → step elapsed_clock most (step elapsed_clock most g (change t l)).station (change t l) ≡ step elapsed_clock most g (change t l)

-- "a move, then an accepted network change at the same reading, equal that change alone": the change is answered as it is alone, and where it
-- is accepted, the station is the same; "Refused .. moves are included"
pub record EqualsAlone (most : Capacities) (g : Station) (move c : Call) : Type 0 where
  pub same-reply : reply elapsed_clock most (step elapsed_clock most g move).station c ≡ reply elapsed_clock most g c
  pub same-station : (step elapsed_clock most g c).answer ≡ accepted → run elapsed_clock most g (move ∷ c ∷ []) ≡ run elapsed_clock most g (c ∷ [])

abbrev pub MoveLeavesNoTrace : Type 0
MoveLeavesNoTrace = (most : Capacities) (g : Station) (t : ℕ) (l m : List Listed) → EqualsAlone most g (roam t l) (change t m)
