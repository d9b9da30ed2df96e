-- Demand 2, the events chosen and their order: what the choice of an element's next event gives. Claims about every log and request, however
-- ages are taken; their proof is in proofs/NextEvent.antt.
-- Assumes nothing.
use Rattle.std.specs.Prelude.{ℕ, ◌≤◌, ◌<◌, ◌≡◌, true, false, List, length}
use Rattle.std.proofs.Math.Option.{none, some}
use Rattle.requests.specs.declared.Element.{Element}
use Rattle.events.specs.declared.Entry.{Entry}
use Rattle.events.specs.Conditions.{meets}
use Rattle.model.specs.Model.{EventRequest}
use Rattle.model.specs.Events.{next_event_place}

-- a place of the log that the front element of a request may still give: "still logged", "logged before acceptance and older than those
-- already given"
pub record Eligible (log : List Entry) (r : EventRequest) (p : ℕ) : Type 0 where
  pub logged : p < length log
  pub accepted : p < r.mark
  pub older : p < r.below

-- document 02 (d): "the newest" of these "that meets all conditions, until the limit is reached"
pub record NewestMatch (since : ℕ → ℕ → ℕ) (log : List Entry) (r : EventRequest) (x : Element) (p : ℕ) : Type 0 where
  pub limit : r.given < x.limit
  pub eligible : Eligible log r p
  pub matches : meets since log x.ty x.filter p ≡ true
  pub newest : (q : ℕ) → Eligible log r q → p < q → meets since log x.ty x.filter q ≡ false

-- it is given, and no other; none is given exactly if the limit is reached or no eligible event meets the conditions
pub record NextEvent : Type 0 where
  pub given : (since : ℕ → ℕ → ℕ) (log : List Entry) (r : EventRequest) (x : Element) (p : ℕ) → next_event_place since log r x ≡ some p → NewestMatch since log r x p
  pub only : (since : ℕ → ℕ → ℕ) (log : List Entry) (r : EventRequest) (x : Element) (p : ℕ) → NewestMatch since log r x p → next_event_place since log r x ≡ some p
  pub none_left : (since : ℕ → ℕ → ℕ) (log : List Entry) (r : EventRequest) (x : Element) → next_event_place since log r x ≡ none → r.given < x.limit
      → (q : ℕ) → Eligible log r q → meets since log x.ty x.filter q ≡ false
  pub over : (since : ℕ → ℕ → ℕ) (log : List Entry) (r : EventRequest) (x : Element) → x.limit ≤ r.given → next_event_place since log r x ≡ none
  pub unmatched : (since : ℕ → ℕ → ℕ) (log : List Entry) (r : EventRequest) (x : Element) → ((q : ℕ) → Eligible log r q → meets since log x.ty x.filter q ≡ false)
      → next_event_place since log r x ≡ none
