-- `station::frames::renewed` meets its contract: each request is replaced where the frame renews it.
-- Assumes nothing.
use Rattle.std.proofs.Common.{◌≡◌, true, length, ap, ◌∙◌}
use Rattle.std.proofs.Math.Option.{some}
use Rattle.laws.specs.Choice.{when◌then◌else◌}
use Rattle.model.specs.Events.{open_events}
use Rattle.requests.specs.Requests.{accepted_request}
use Rattle.requesters.specs.declared.Requester.{Requester}
use Rattle.requesters.specs.Views.{view_events, view_diagnostics}
use Rattle.station.proofs.CallLaws.{renews, taken}
use Rattle.station.proofs.frames.renewed.Goals as goal
use Rattle.station.proofs.frames.renewed.Goals.{then-renews_events, else-renews_events}

pub returns-then-renews_diagnostics : goal.returns-then-renews_diagnostics
unfolding when◌then◌else◌
returns-then-renews_diagnostics c log e = let a = c.args in
    let q = accepted_request a.q in
    let first = c.if-renews_events in
    let events = c.renews_events.result in
    let is : (first.x.address ≡ a.r.address) × (first.x.form ≡ a.r.form) × (view_events first.x.events ≡ (when events then some (open_events (length log) q) else view_events a.r.events)) =
    elim first.branch [
      | then-renews_events w ↦ (ap (λ (r : Requester). r.address) w.x-is, ap (λ (r : Requester). r.form) w.x-is, rw (w.x-is, w.if-renews_events.true, w.new_events-x.ensures, e))
      | else-renews_events w ↦ (ap (λ (r : Requester). r.address) w.x-is, ap (λ (r : Requester). r.form) w.x-is, rw (w.x-is, w.if-renews_events.false))
    ] in
    renews a.now.0 log q a.r true events c.renews_diagnostics.result _ c.renews_events.ensures c.renews_diagnostics.ensures is.0 is.1 is.2 (rw c.if-renews_diagnostics.true c.new_diagnostics-x.ensures)
    ∙ taken a.now.0 log q a.r q.kind

pub returns-else-renews_diagnostics : goal.returns-else-renews_diagnostics
unfolding when◌then◌else◌
returns-else-renews_diagnostics c log e = let a = c.args in
    let q = accepted_request a.q in
    let first = c.if-renews_events in
    let events = c.renews_events.result in
    let is : (first.x.address ≡ a.r.address) × (first.x.form ≡ a.r.form) × (view_events first.x.events ≡ (when events then some (open_events (length log) q) else view_events a.r.events)) × (first.x.diagnostics ≡ a.r.diagnostics) =
    elim first.branch [
      | then-renews_events w ↦ (ap (λ (r : Requester). r.address) w.x-is, ap (λ (r : Requester). r.form) w.x-is, rw (w.x-is, w.if-renews_events.true, w.new_events-x.ensures, e), ap (λ (r : Requester). r.diagnostics) w.x-is)
      | else-renews_events w ↦ (ap (λ (r : Requester). r.address) w.x-is, ap (λ (r : Requester). r.form) w.x-is, rw (w.x-is, w.if-renews_events.false), ap (λ (r : Requester). r.diagnostics) w.x-is)
    ] in
    renews a.now.0 log q a.r true events c.renews_diagnostics.result _ c.renews_events.ensures c.renews_diagnostics.ensures is.0 is.1 is.2 (rw c.if-renews_diagnostics.false (ap view_diagnostics is.3))
    ∙ taken a.now.0 log q a.r q.kind
