-- Calls on the code's station: what the methods' contracts allow, one after the other. The theorems about the model are said of them in
-- Demands.antt.
-- Assumes nothing.
use Rattle.std.specs.Prelude.{◌≡◌, List, [], ◌∷◌, ℕ}
use Rattle.model.specs.Clocks.{elapsed_clock}
use Rattle.model.specs.Model.{standard, Listed, Call}
use Rattle.model.specs.Stations.{setup, step}
use Rattle.model.specs.Runs.{HandedIn}
use Rattle.station.specs.declared.Station.{Station}
use Rattle.station.specs.declared.Outcome.{Outcome}
use Rattle.station.specs.Views.{view, view_outcome}

-- a call that was made: the call as the model has it, what the method returned, and the lent buffer afterwards ([] where none was lent)
pub record Made : Type 0 where
  pub call : Call
  pub outcome : Outcome
  pub buffer : List ℕ

-- a call made on the station g: the equation of its method's contract
pub record Allowed (g : Station) (m : Made) : Type 0 where
  pub handed_in : HandedIn m.call
  pub contract : view_outcome m.outcome m.buffer ≡ step elapsed_clock standard (view g) m.call

-- each on the station that the one before it returned
pub data Chain : Station → List Made → Station → Type 0 where
  none_made : {g : Station} → Chain g [] g
  made : {g h : Station} {m : Made} {ms : List Made} → Allowed g m → Chain m.outcome.station ms h → Chain g (m ∷ ms) h

-- the first from setup: its contract's equation
abbrev pub SetUp : List ℕ → List Listed → Outcome → Type 0
SetUp i l o = view_outcome o [] ≡ setup standard i l
