-- Laws of a report call on one requester: what the code leaves is what the model gives.
-- Assumes nothing.
use Rattle.std.proofs.Common.{ℕ, ◌+◌, ◌≡◌, refl, ap, ◌∙◌, Bool, true, false, not, List, [], ◌∷◌, length, take, length-take, arith, take_all, ne_eqb}
use Rattle.std.proofs.Math.Option.{Option, none, some}
use Rattle.units.specs.Time.{elapsed_since}
use Rattle.laws.specs.Choice.{when◌then◌else◌}
use Rattle.laws.specs.Buffers.{onto}
use Rattle.octets.specs.declared.numbers.Kind.TheVariants.{Event, Diagnostic}
use Rattle.octets.specs.Numbers.{report_action}
use Rattle.events.specs.declared.Entry.{Entry}
use Rattle.model.specs.declared.Diagnostic.{Diagnostic as Element}
use Rattle.model.specs.Model.{EventRequest, DiagnosticRequest, of_length}
use Rattle.model.specs.Fill.{Piece, next_frame}
use Rattle.model.specs.Events.{next_event, unless_done}
use Rattle.model.specs.Diagnostics.{next_diagnostic, unless_over}
use Rattle.model.specs.Stations.{served, room, give_events, give_diagnostics, if_outstanding, octets_of, give_kind}
use Rattle.requesters.specs.declared.Requester.{Requester}
use Rattle.requesters.specs.declared.Answer.TheVariants.{Nothing, Length}
use Rattle.requesters.specs.declared.Progress.{Progress}
use Rattle.report_calls.specs.declared.Filled.{Filled}
use Rattle.requesters.specs.Views.{left, events_at, view_events, view_diagnostics, view_requester, view_answer, view_identity, view_served}
use Rattle.report_calls.specs.Internal.{is_none, FramedAs, filled_events, answered_diagnostics}

-- the octets of an identity of which 252 are taken
pub identity-octets : (identity : List ℕ) → octets_of (view_identity (length identity) (take 252 identity)) ≡ take 252 identity
unfolding view_identity octets_of when◌then◌else◌
identity-octets [] = refl
identity-octets (x ∷ xs) = rw (ne_eqb (length (x ∷ xs)) 0 (omega arith)) (take_all (length (x ∷ xs)) (take 252 (x ∷ xs)) (omega (arith, length-take 252 (x ∷ xs))))

-- a request that is over, or not
ended-events : (q : EventRequest) (o : Option (Piece EventRequest)) (done : Bool) → done ≡ is_none o → (when not done then some q else none) ≡ unless_done q o
unfolding unless_done when◌then◌else◌
ended-events q none done e = rw e
ended-events q (some p) done e = rw e

ended-diagnostics : (identity : List ℕ) (dialog accepted : ℕ) (xs : List Element) (done : Bool) → done ≡ is_none (next_diagnostic identity xs)
    → (when not done then some (record { dialog = dialog; accepted = accepted; elements = xs }) else none) ≡ unless_over dialog accepted xs
unfolding next_diagnostic unless_over when◌then◌else◌
ended-diagnostics identity dialog accepted [] done e = rw e
ended-diagnostics identity dialog accepted (x ∷ xs) done e = rw e

module _ (r : Requester) (log : List Entry) (s : List ℕ) where
  pub no_events : r.events.outstanding ≡ false → view_served (record { requester = r; answer = Nothing }) s ≡ give_kind elapsed_since none log s (view_requester r) Event
  unfolding give_kind if_outstanding view_requester view_events view_answer when◌then◌else◌
  no_events e = rw e

  pub gives-events : (s' : List ℕ) (f : Filled Progress) → r.events.outstanding ≡ true
      → FramedAs (next_event elapsed_since r.form log) (report_action Event) r.events.dialog (events_at r.events r.events.progress) s s' f.wrote f.done (events_at r.events f.after)
      → view_served (record { requester = record r { events = filled_events r.events f }; answer = Length (3 + f.wrote) }) s' ≡ give_kind elapsed_since none log s (view_requester r) Event
  unfolding give_kind if_outstanding give_events view_requester view_events view_answer events_at when◌then◌else◌
  gives-events s' f e g =
      let P = next_frame (next_event elapsed_since r.form log) (report_action Event) r.events.dialog (room s) (events_at r.events r.events.progress) in
      let left : view_events (filled_events r.events f) ≡ unless_done P.rest (next_event elapsed_since r.form log P.rest) =
      ended-events (events_at r.events f.after) (next_event elapsed_since r.form log (events_at r.events f.after)) f.done g.ended
      ∙ ap (λ (q : EventRequest). unless_done q (next_event elapsed_since r.form log q)) g.after in
      rw (e, g.wrote, g.octets)
      (ap (λ (o : Option EventRequest). served (record { address = r.address; form = r.form; events = o; diagnostics = view_diagnostics r.diagnostics }) (of_length (length P.octets)) (onto P.octets s)) left)

module _ (r : Requester) (identity s : List ℕ) where
  pub no_diagnostics : r.diagnostics.outstanding ≡ false
      → view_served (record { requester = r; answer = Nothing }) s ≡ give_kind elapsed_since (view_identity (length identity) (take 252 identity)) [] s (view_requester r) Diagnostic
  unfolding give_kind if_outstanding view_requester view_diagnostics view_answer when◌then◌else◌
  no_diagnostics e = rw e

  pub gives-diagnostics : (s' : List ℕ) (f : Filled ℕ) → r.diagnostics.outstanding ≡ true
      → FramedAs (next_diagnostic (take 252 identity)) (report_action Diagnostic) r.diagnostics.dialog (left r.diagnostics.first r.diagnostics.count r.diagnostics.elements) s s' f.wrote f.done (left f.after r.diagnostics.count r.diagnostics.elements)
      → view_served (record { requester = record r { diagnostics = answered_diagnostics r.diagnostics f }; answer = Length (3 + f.wrote) }) s' ≡ give_kind elapsed_since (view_identity (length identity) (take 252 identity)) [] s (view_requester r) Diagnostic
  unfolding give_kind if_outstanding give_diagnostics view_requester view_diagnostics view_answer when◌then◌else◌
  gives-diagnostics s' f e g =
      let d = r.diagnostics in
      let P = next_frame (next_diagnostic (take 252 identity)) (report_action Diagnostic) d.dialog (room s) (left d.first d.count d.elements) in
      let over : view_diagnostics (answered_diagnostics d f) ≡ unless_over d.dialog d.accepted.0 P.rest =
      ended-diagnostics (take 252 identity) d.dialog d.accepted.0 (left f.after d.count d.elements) f.done g.ended
      ∙ ap (unless_over d.dialog d.accepted.0) g.after in
      rw (e, identity-octets identity, g.wrote, g.octets)
      (ap (λ (o : Option DiagnosticRequest). served (record { address = r.address; form = r.form; events = view_events r.events; diagnostics = o }) (of_length (length P.octets)) (onto P.octets s)) over)
