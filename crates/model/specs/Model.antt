-- The model of a station (document 01: a gate): its state, calls and answers, over lists and records.
-- Assumes nothing.
use Rattle.std.specs.Prelude.{ℕ, List, get_or}
use Rattle.std.proofs.Math.Option.{Option}
use Rattle.octets.specs.Addresses.{address_at}
use Rattle.octets.specs.declared.numbers.Kind.{Kind}
use Rattle.octets.specs.Refusals.{Refusal}
use Rattle.requests.specs.declared.Element.{Element}
use Rattle.events.specs.declared.Entry.{Entry}
use Rattle.requests.specs.Elements.{element_capacity}
use Rattle.events.specs.Log.{log_capacity}
use Rattle.events.specs.Loggings.{LoggedEvent}
use Rattle.model.specs.declared.Diagnostic.{Diagnostic}
use Rattle.model.specs.Clocks.{Timer}

-- how much a station holds: events in its log, requesters, elements of a request frame
pub record Capacities : Type 0 where
  pub events : ℕ
  pub requesters : ℕ
  pub elements : ℕ

-- "Setup names the identity and one to four consoles."
abbrev pub requester_capacity : ℕ
requester_capacity = 4

-- document 01's gate
abbrev pub standard : Capacities
standard = record { events = log_capacity; requesters = requester_capacity; elements = element_capacity }

-- six octets
abbrev pub Address : Type 0
Address = List ℕ

-- what a list names a requester by, seven octets: its address, and document 02 (g)'s form, "named per console in the console list"
abbrev pub Listed : Type 0
Listed = List ℕ

abbrev pub listed_address : Listed → Address
listed_address x = address_at x 0

abbrev pub listed_form : Listed → ℕ
listed_form x = get_or x 6 0

-- an outstanding event request: its dialog token; how many places of the log, from the oldest, were logged before acceptance; its
-- elements left; and of the front one how many events it gave, and below which place of the log its next one is
pub record EventRequest : Type 0 where
  pub dialog : ℕ
  pub mark : ℕ
  pub given : ℕ
  pub below : ℕ
  pub elements : List Element

-- an outstanding diagnostic request: its dialog token, the time of its acceptance, its unanswered elements
pub record DiagnosticRequest : Type 0 where
  pub dialog : ℕ
  pub accepted : ℕ
  pub elements : List Diagnostic

-- a console, with the form it follows: "Each console has one event request and one diagnostic request at most."
pub record Requester : Type 0 where
  pub address : Address
  pub form : ℕ
  pub events : Option EventRequest
  pub diagnostics : Option DiagnosticRequest

-- timer: of the latest call; identity: none where setup was refused; log: oldest first
pub record Station : Type 0 where
  pub timer : Timer
  pub identity : Option (List ℕ)
  pub log : List Entry
  pub requesters : List Requester

-- "Every call on a gate carries a reading": its first argument
pub data Call : Type 0 where
  -- a bare clock reading
  clock : ℕ → Call
  logging : ℕ → LoggedEvent → Call
  -- destination, source, octets
  frame : ℕ → Address → Address → List ℕ → Call
  -- requester, kind, the lent buffer's octets at entry
  report : ℕ → Address → Kind → List ℕ → Call
  -- a move inside the network, a network change: the new requesters
  roam : ℕ → List Listed → Call
  change : ℕ → List Listed → Call

-- "accepted", "nothing", length, or refusal number and place
pub data Answer : Type 0 where
  accepted : Answer
  nothing : Answer
  of_length : ℕ → Answer
  turned_away : Refusal → Answer

-- what a call gives: the station after it, the answer, and the lent buffer's octets afterwards ([] where none was lent)
pub record Result : Type 0 where
  pub station : Station
  pub answer : Answer
  pub buffer : List ℕ
