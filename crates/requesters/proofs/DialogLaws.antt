-- Laws of the replacement of a request: what an accepted frame leaves, by the tests that say whether it changes what is outstanding.
-- Assumes nothing.
use Rattle.std.proofs.Common.{ℕ, ◌≡◌, refl, Bool, true, false, not, ◌&&◌, ◌||◌, eqb}
use Rattle.std.proofs.Math.Option.{Option, none, some}
use Rattle.laws.specs.Choice.{when◌then◌else◌}
use Rattle.octets.specs.declared.numbers.Kind.TheVariants.{Event, Diagnostic}
use Rattle.requests.specs.Requests.{Request}
use Rattle.model.specs.Dialogs.{replace}
use Rattle.model.specs.Events.{open_events, take_events}
use Rattle.model.specs.Diagnostics.{diagnostics_of, holds_cancel, unless_over, take_diagnostics}
use Rattle.requesters.specs.declared.EventRequest.{EventRequest as CodeEventRequest}
use Rattle.requesters.specs.declared.DiagnosticRequest.{DiagnosticRequest as CodeDiagnosticRequest}
use Rattle.requesters.specs.Views.{events_at, view_events, view_diagnostics}
use Rattle.requesters.specs.Internal.{renews_events, renews_diagnostics, new_diagnostics}

-- a request r, which is outstanding by the test b
replaced : {R : Type 0} (repeated : R → Bool) (new : Option R) (r : R) (b : Bool)
    → (when not (b && repeated r) then new else (when b then some r else none)) ≡ replace repeated new (when b then some r else none)
unfolding replace when◌then◌else◌
replaced {R} repeated new r true = go (repeated r)
  where
    go : (t : Bool) → (when not t then new else some r) ≡ (when t then some r else new)
    go true = refl
    go false = refl
replaced repeated new r false = refl

pub events-taken : (logged : ℕ) (q : Request) (e : CodeEventRequest)
    → (when renews_events q e.outstanding e.dialog Event then some (open_events logged q) else view_events e) ≡ take_events logged q (view_events e)
unfolding renews_events take_events view_events events_at
events-taken logged q e = replaced _ _ _ e.outstanding

-- a Cancel comes before that
cancelled : {R : Type 0} (c b : Bool) (old new r : Option R) → (when b then new else old) ≡ r → (when c || b then (when c then none else new) else old) ≡ (when c then none else r)
unfolding when◌then◌else◌
cancelled true b old new r e = refl
cancelled false b old new r e = e

pub diagnostics-taken : (t : ℕ) (q : Request) (d : CodeDiagnosticRequest)
    → (when renews_diagnostics q d.outstanding d.dialog Diagnostic then new_diagnostics t q else view_diagnostics d) ≡ take_diagnostics t q (view_diagnostics d)
unfolding renews_diagnostics new_diagnostics take_diagnostics view_diagnostics
diagnostics-taken t q d =
    cancelled (holds_cancel (diagnostics_of q)) (not (d.outstanding && eqb q.dialog d.dialog)) (view_diagnostics d) (unless_over q.dialog t (diagnostics_of q)) _
    (replaced _ _ _ d.outstanding)
