-- The ages that a call takes.
-- Assumes nothing.
use Rattle.std.specs.Prelude.{ℕ, ◌≤◌, ◌<◌, min, ◌≡◌, Bool, true, ◌&&◌, List, [], ◌∷◌, eqb, length, get_or}
use Rattle.std.proofs.Math.Option.{Option, none, some}
use Rattle.laws.specs.Members.{any}
use Rattle.octets.specs.declared.numbers.Kind.{Kind}
use Rattle.octets.specs.declared.numbers.Kind.TheVariants.{Event, Diagnostic}
use Rattle.events.specs.declared.Entry.{Entry}
use Rattle.events.specs.Log.{past_log, type_of, stamp_of}
use Rattle.events.specs.Conditions.{condition}
use Rattle.requests.specs.declared.Element.{Element}
use Rattle.model.specs.Model.{EventRequest, DiagnosticRequest, Requester, Station, Call, clock, logging, frame, report, roam, change}
use Rattle.model.specs.Requesters.{find}

-- an element with a frequent condition
abbrev pub asks_frequent : Element → Bool
asks_frequent x = eqb x.ty 0 && (condition x.filter 4).present

-- P is said of each age, of its later time and its earlier one
module _ (P : ℕ → ℕ → Type 0) where
  unfoldable pub OfRequest : ℕ → Option DiagnosticRequest → Type 0
  OfRequest now none = Unit {0}
  OfRequest now (some q) = P now q.accepted

  -- the late drop's: of every unanswered diagnostic
  unfoldable pub OfDrop : ℕ → List Requester → Type 0
  OfDrop now [] = Unit {0}
  OfDrop now (r ∷ rs) = OfRequest now r.diagnostics × OfDrop now rs

  -- a frequent condition's: of the transitions logged before acceptance, and each of those up to it
  unfoldable pub OfLog : ℕ → List Entry → Type 0
  OfLog mark log =
      (i p : ℕ) → i ≤ p → p < min mark (length log) → type_of (get_or log i past_log) ≡ 0 → type_of (get_or log p past_log) ≡ 0
      → P (stamp_of (get_or log p past_log)) (stamp_of (get_or log i past_log))

  -- an event report's, where a frequent condition stands in one of the elements left
  unfoldable pub OfEvents : List Entry → Option EventRequest → Type 0
  OfEvents log none = Unit {0}
  OfEvents log (some q) = any asks_frequent q.elements ≡ true → OfLog q.mark log

  unfoldable pub OfKind : List Entry → Requester → Kind → Type 0
  OfKind log r Event = OfEvents log r.events
  OfKind log r Diagnostic = Unit {0}

  unfoldable pub OfReport : List Entry → Kind → Option Requester → Type 0
  OfReport log kind none = Unit {0}
  OfReport log kind (some r) = OfKind log r kind

  unfoldable pub OfCall : Station → Call → Type 0
  OfCall g (clock t) = Unit {0}
  OfCall g (logging t e) = Unit {0}
  OfCall g (frame t d s o) = Unit {0}
  OfCall g (report t s kind b) = OfReport g.log kind (find s g.requesters)
  OfCall g (roam t l) = Unit {0}
  OfCall g (change t l) = Unit {0}

  -- of a call on a station whose time is the call's
  abbrev pub EachAge : Station → Call → Type 0
  EachAge g c = OfDrop g.timer.now g.requesters × OfCall g c
