-- Laws of what is said of the ages that a call takes.
-- Assumes nothing.
use Rattle.std.proofs.Common.{ℕ, ◌≤◌, ◌<◌, ◌≡◌, refl, List, [], ◌∷◌, arith, length, get_or}
use Rattle.std.proofs.Math.Option.{Option, none, some, map}
use Rattle.octets.specs.declared.numbers.Kind.{Kind}
use Rattle.octets.specs.declared.numbers.Kind.TheVariants.{Event, Diagnostic}
use Rattle.events.specs.declared.Entry.{Entry}
use Rattle.events.specs.Log.{past_log, stamp_of}
use Rattle.model.specs.Model.{EventRequest, DiagnosticRequest, Requester, Station, Call, clock, logging, frame, report, roam, change}
use Rattle.model.specs.Ages.{OfRequest, OfDrop, OfLog, OfEvents, OfKind, OfReport, OfCall, EachAge}
use Rattle.model.specs.Requesters.{find}
use Rattle.model.specs.Stations.{tick_requester, without_late}
use Rattle.model.proofs.Seen.{find-map}

-- what is said of all pairs is said of those that a call looks at
module _ (P : ℕ → ℕ → Type 0) (log : List Entry) (all : (i p : ℕ) → i ≤ p → p < length log → P (stamp_of (get_or log p past_log)) (stamp_of (get_or log i past_log))) where
  all_report : (kind : Kind) (o : Option Requester) → OfReport P log kind o
  unfolding OfReport OfKind OfEvents OfLog
  all_report kind none = tt
  all_report Diagnostic (some r) = tt
  all_report Event (some r) = go r.events
    where
      go : (o : Option EventRequest) → OfEvents P log o
      go none = tt
      go (some q) = λ _ i p h k _ _. all i p h (omega arith)

pub log-call : (P : ℕ → ℕ → Type 0) (g : Station) → ((i p : ℕ) → i ≤ p → p < length g.log → P (stamp_of (get_or g.log p past_log)) (stamp_of (get_or g.log i past_log)))
    → (x : Call) → OfCall P g x
unfolding OfCall
log-call P g h (clock t) = tt
log-call P g h (logging t e) = tt
log-call P g h (frame t d s o) = tt
log-call P g h (report t s kind b) = all_report P g.log h kind (find s g.requesters)
log-call P g h (roam t l) = tt
log-call P g h (change t l) = tt

-- the late drop leaves the event requests
dropped-report : (P : ℕ → ℕ → Type 0) (log : List Entry) (kind : Kind) (f : Requester → Requester) → ((r : Requester) → (f r).events ≡ r.events)
    → (o : Option Requester) → OfReport P log kind o → OfReport P log kind (map f o)
unfolding OfReport OfKind
dropped-report P log kind f e none h = tt
dropped-report P log Event f e (some r) h = rw (e r) h
dropped-report P log Diagnostic f e (some r) h = tt

pub dropped-call : (P : ℕ → ℕ → Type 0) (since : ℕ → ℕ → ℕ) (g : Station) (x : Call) → OfCall P g x → OfCall P (without_late since g) x
unfolding OfCall without_late tick_requester
dropped-call P since g (clock t) h = tt
dropped-call P since g (logging t e) h = tt
dropped-call P since g (frame t d s o) h = tt
dropped-call P since g (report t s kind b) h =
    rw (find-map (tick_requester since g.timer.now) (λ r. (refl, refl)) s g.requesters)
    (dropped-report P g.log kind (tick_requester since g.timer.now) (λ r. refl) (find s g.requesters) h)
dropped-call P since g (roam t l) h = tt
dropped-call P since g (change t l) h = tt

-- from what is said of two ways
module _ (P Q R : ℕ → ℕ → Type 0) (both : (t a : ℕ) → P t a → Q t a → R t a) where
  both_request : (now : ℕ) (o : Option DiagnosticRequest) → OfRequest P now o → OfRequest Q now o → OfRequest R now o
  unfolding OfRequest
  both_request now none h k = tt
  both_request now (some q) h k = both now q.accepted h k

  both_drop : (now : ℕ) (rs : List Requester) → OfDrop P now rs → OfDrop Q now rs → OfDrop R now rs
  unfolding OfDrop
  both_drop now [] h k = tt
  both_drop now (r ∷ rs) h k = (both_request now r.diagnostics h.0 k.0, both_drop now rs h.1 k.1)

  both_report : (log : List Entry) (kind : Kind) (o : Option Requester) → OfReport P log kind o → OfReport Q log kind o → OfReport R log kind o
  unfolding OfReport OfKind OfEvents OfLog
  both_report log kind none h k = tt
  both_report log Diagnostic (some r) h k = tt
  both_report log Event (some r) h k = go r.events h k
    where
      go : (o : Option EventRequest) → OfEvents P log o → OfEvents Q log o → OfEvents R log o
      go none h k = tt
      go (some q) h k = λ e i p a b c d. both _ _ (h e i p a b c d) (k e i p a b c d)

  both_call : (g : Station) (x : Call) → OfCall P g x → OfCall Q g x → OfCall R g x
  unfolding OfCall
  both_call g (clock t) h k = tt
  both_call g (logging t e) h k = tt
  both_call g (frame t d s o) h k = tt
  both_call g (report t s kind b) h k = both_report g.log kind (find s g.requesters) h k
  both_call g (roam t l) h k = tt
  both_call g (change t l) h k = tt

  pub both_ages : (g : Station) (x : Call) → EachAge P g x → EachAge Q g x → EachAge R g x
  both_ages g x h k = (both_drop g.timer.now g.requesters h.0 k.0, both_call g x h.1 k.1)

-- what is said of every age
module _ (P : ℕ → ℕ → Type 0) (all : (t a : ℕ) → P t a) where
  all_drop : (now : ℕ) (rs : List Requester) → OfDrop P now rs
  unfolding OfDrop OfRequest
  all_drop now [] = tt
  all_drop now (r ∷ rs) = (go r.diagnostics, all_drop now rs)
    where
      go : (o : Option DiagnosticRequest) → OfRequest P now o
      go none = tt
      go (some q) = all now q.accepted

  pub all_ages : (g : Station) (x : Call) → EachAge P g x
  all_ages g x = (all_drop g.timer.now g.requesters, log-call P g (λ i p h k. all _ _) x)
