-- Lists of calls on a station, and who sends them.
-- Assumes nothing.
use Rattle.std.specs.Prelude.{ℕ, List, [], ◌∷◌}
use Rattle.std.proofs.Math.Option.{Option, none, some}
use Rattle.events.specs.Loggings.{EventLengths}
use Rattle.model.specs.Clocks.{Clock}
use Rattle.model.specs.Model.{Capacities, Address, Station, Call, clock, logging, frame, report, roam, change, Answer}
use Rattle.model.specs.Stations.{timed, reading_of, step}

-- the station after a list of calls: each call is on the station that the one before it returned
unfoldable pub run : Clock → Capacities → Station → List Call → Station
run k most g [] = g
run k most g (c ∷ cs) = run k most (step k most g c).station cs

-- what a caller can hand in: a logged event's fields are arrays, which have their lengths
abbrev pub HandedIn : Call → Type 0
HandedIn (clock t) = Unit {0}
HandedIn (logging t x) = EventLengths x
HandedIn (frame t d s o) = Unit {0}
HandedIn (report t s k b) = Unit {0}
HandedIn (roam t l) = Unit {0}
HandedIn (change t l) = Unit {0}

-- what is said of every call of a list, and of the station that it is made on
unfoldable pub EachCall : (Station → Call → Type 0) → Clock → Capacities → Station → List Call → Type 0
EachCall P k most g [] = Unit {0}
EachCall P k most g (c ∷ cs) = P g c × EachCall P k most (step k most g c).station cs

-- what is said of every call of a list, and of the station at its time, before the late drop
unfoldable pub Always : (Station → Call → Type 0) → Clock → Capacities → Station → List Call → Type 0
Always P k most g [] = Unit {0}
Always P k most g (c ∷ cs) = P (timed k (reading_of c) g) c × Always P k most (step k most g c).station cs

-- "Sender: the source a frame call carries or the console a report call names"
unfoldable pub sender : Call → Option Address
sender (clock t) = none
sender (logging t e) = none
sender (frame t d s o) = some s
sender (report t s k b) = some s
sender (roam t l) = none
sender (change t l) = none

-- "Compared is the whole result", and every octet of the lent buffer
pub record Reply : Type 0 where
  pub answer : Answer
  pub buffer : List ℕ

unfoldable pub reply : Clock → Capacities → Station → Call → Reply
reply k most g c = record { answer = (step k most g c).answer; buffer = (step k most g c).buffer }

-- "an answer is to its sender, listed or not": a call without a sender answers no requester
unfoldable pub to_sender : Option Address → (Address → Reply) → Option Reply
to_sender none f = none
to_sender (some s) f = some (f s)
