-- The proved set: the starred cases of document 01, "Rollover and edge cases", as one table, and one fact about the definitions. Its proof is in
-- proofs/Starred.antt.
-- Assumes nothing.
use Rattle.std.specs.Prelude.{ℕ, ◌≡◌, Bool, true, false, not, ◌&&◌, List, [], ◌∷◌, ◌++◌, map, eqb, replicate}
use Rattle.std.proofs.Math.Option.{Option, none, some}
use Rattle.laws.specs.Members.{any}
use Rattle.units.specs.Time.{age, elapsed_since, tus_of}
use Rattle.octets.specs.Fields.{low, high}
use Rattle.subelements.specs.declared.Condition.{Condition}
use Rattle.subelements.specs.Subelements.{absent}
use Rattle.requests.specs.Elements.{element_capacity}
use Rattle.requests.specs.Requests.{read_request}
use Rattle.events.specs.declared.Entry.{Entry}
use Rattle.events.specs.declared.Transition.{Transition}
use Rattle.events.specs.Times.{draft}
use Rattle.events.specs.Loggings.{transition, entry_of}
use Rattle.events.specs.Conditions.{meets}
use Rattle.model.specs.Clocks.{Clock, elapsed_clock}
use Rattle.model.specs.Model.{standard, Address, Listed, DiagnosticRequest, Station, Call, clock, frame}
use Rattle.model.specs.Stations.{setup}
use Rattle.model.specs.Runs.{run}

pub data Case : Type 0 where
  -- departure, arrival, milliseconds, TUs
  crossing : ℕ → ℕ → ℕ → ℕ → Case
  -- milliseconds, TUs
  aged : ℕ → ℕ → Case
  -- a request frame, its refusal's number and place
  refused_frame : List ℕ → ℕ → ℕ → Case
  -- seconds, the reading of acceptance, a later one, whether the diagnostic is alive there
  timeout : ℕ → ℕ → ℕ → Bool → Case
  -- a threshold, and whether a transition of 15 TU meets it
  threshold : ℕ → Bool → Case

unfoldable pub cases : List Case
cases =
    crossing 4294967290 10 16 15
    ∷ aged 1 0
    ∷ aged 2 1
    ∷ aged 67107 65534
    ∷ aged 67108 65535
    ∷ aged 67109 65535
    ∷ refused_frame (10 ∷ 0 ∷ 7 ∷ 78 ∷ 6 ∷ 0 ∷ 0 ∷ 4 ∷ 3 ∷ 1 ∷ 1 ∷ []) 6 3
    ∷ refused_frame (10 ∷ 0 ∷ 7 ∷ 78 ∷ 2 ∷ 5 ∷ 0 ∷ []) 5 3
    ∷ refused_frame (10 ∷ 0 ∷ 7 ∷ 78 ∷ 6 ∷ 5 ∷ 0 ∷ 4 ∷ 3 ∷ 2 ∷ 1 ∷ []) 7 8
    ∷ refused_frame (10 ∷ 2 ∷ 7 ∷ []) 10 0
    ∷ refused_frame (10 ∷ 0 ∷ 0 ∷ []) 3 0
    ∷ timeout 2 4294966000 704 true
    ∷ timeout 2 4294966000 705 false
    ∷ threshold 15 true
    ∷ threshold 16 false
    ∷ []

unfoldable pub outstanding : Option DiagnosticRequest → Bool
outstanding none = false
outstanding (some r) = true

-- an identity and a console of a gate
unfoldable pub some_identity : List ℕ
some_identity = 13 ∷ 3 ∷ 1 ∷ 2 ∷ 3 ∷ 11 ∷ 1 ∷ 4 ∷ 12 ∷ 1 ∷ 5 ∷ 14 ∷ 1 ∷ 6 ∷ 9 ∷ 1 ∷ 7 ∷ []

unfoldable pub some_console : Address
some_console = 2 ∷ 0 ∷ 0 ∷ 0 ∷ 0 ∷ 1 ∷ []

-- it follows the draft
abbrev pub some_list : List Listed
some_list = (some_console ++ (draft ∷ [])) ∷ []

-- a gate that took calls
abbrev pub some_gate : Clock → List Call → Station
some_gate k cs = run k standard (setup standard some_identity some_list).station cs

-- is a diagnostic with a timeout in seconds, accepted at one reading, outstanding after bare clock readings?
unfoldable pub waits : Clock → ℕ → ℕ → List ℕ → Bool
waits k seconds accepted readings =
    any (λ r. outstanding r.diagnostics)
    (some_gate k (frame accepted some_console some_console (10 ∷ 2 ∷ 8 ∷ 80 ∷ 4 ∷ 6 ∷ 1 ∷ low seconds ∷ high seconds ∷ []) ∷ map clock readings)).requesters

-- a transition across the rollover; logged at 10 it takes 15 TU
unfoldable pub slow_transition : Transition
slow_transition = record {
  times = record { time = 0 ∷ 0 ∷ 0 ∷ 0 ∷ 0 ∷ 1 ∷ 1 ∷ 0 ∷ 0 ∷ []; tsf = replicate 8 0; offset = replicate 10 0; error = replicate 5 0 };
  source = 2 ∷ 1 ∷ 1 ∷ 1 ∷ 1 ∷ 1 ∷ [];
  target = 2 ∷ 1 ∷ 1 ∷ 1 ∷ 1 ∷ 2 ∷ [];
  reason = 0;
  result = 0;
  signals = 0 ∷ 0 ∷ 0 ∷ 0 ∷ [];
  departure = record { 0 = 4294967290 };
}

unfoldable pub slow : Entry
slow = entry_of 0 10 (transition slow_transition)

-- the conditions of an element with a threshold below 256 TU
unfoldable pub least_transition : ℕ → List Condition
least_transition tus = absent ∷ absent ∷ record { present = true; octets = tus ∷ 0 ∷ 0 ∷ 0 ∷ 0 ∷ 0 ∷ 0 ∷ 0 ∷ [] } ∷ absent ∷ absent ∷ []

unfoldable pub equal : Bool → Bool → Bool
equal true b = b
equal false b = not b

unfoldable pub case_holds : Case → Bool
case_holds (crossing departure arrival milliseconds tus) = eqb (age arrival departure) milliseconds && eqb (tus_of milliseconds) tus
case_holds (aged milliseconds tus) = eqb (tus_of milliseconds) tus
case_holds (refused_frame o number place) = eqb (read_request element_capacity o).refusal.number number && eqb (read_request element_capacity o).refusal.place place
case_holds (timeout seconds accepted reading alive) =
    equal alive (waits elapsed_clock seconds accepted (reading ∷ []))
case_holds (threshold tus met) = equal met (meets elapsed_since (slow ∷ []) 0 (least_transition tus) 0)

unfoldable pub all_hold : List Case → Bool
all_hold [] = true
all_hold (c ∷ cs) = case_holds c && all_hold cs

abbrev pub Starred : Type 0
Starred = all_hold cases ≡ true
