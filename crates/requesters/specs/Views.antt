-- A requester of the code as the model has it. A view takes what the counts say is there; a count past its array's end counts as the end,
-- and the free places are not looked at.
-- Assumes nothing.
use Rattle.std.specs.Prelude.{ℕ, List, eqb, take, drop}
use Rattle.std.proofs.Math.Option.{Option, none, some}
use Rattle.laws.specs.Choice.{when◌then◌else◌}
use Rattle.octets.specs.Refusals.{refusal_of}
use Rattle.model.specs.Model.{EventRequest, DiagnosticRequest, Requester, Answer, accepted, nothing, of_length, turned_away}
use Rattle.model.specs.Stations.{Served, served}
use Rattle.requesters.specs.declared.Served.{Served as CodeServed}
use Rattle.requesters.specs.declared.EventRequest.{EventRequest as CodeEventRequest}
use Rattle.requesters.specs.declared.DiagnosticRequest.{DiagnosticRequest as CodeDiagnosticRequest}
use Rattle.requesters.specs.declared.Requester.{Requester as CodeRequester}
use Rattle.requesters.specs.declared.Progress.{Progress}
use Rattle.requesters.specs.declared.Answer.{Answer as CodeAnswer}
use Rattle.requesters.specs.declared.Answer.TheVariants.{Accepted, Nothing, Length, Refused}

-- the elements left of an array: those from first to count
abbrev pub left : {A : Type 0} → ℕ → ℕ → List A → List A
left first count xs = drop first (take count xs)

-- an event request that has come so far
unfoldable pub events_at : CodeEventRequest → Progress → EventRequest
events_at r p = record { dialog = r.dialog; mark = r.mark; given = p.given; below = p.below; elements = left p.first r.count r.elements }

unfoldable pub view_events : CodeEventRequest → Option EventRequest
view_events r = when r.outstanding then some (events_at r r.progress) else none

unfoldable pub view_diagnostics : CodeDiagnosticRequest → Option DiagnosticRequest
view_diagnostics r =
    when r.outstanding then some (record { dialog = r.dialog; accepted = r.accepted.0; elements = left r.first r.count r.elements })
    else none

unfoldable pub view_requester : CodeRequester → Requester
view_requester r = record { address = r.address; form = r.form; events = view_events r.events; diagnostics = view_diagnostics r.diagnostics }

-- document 01's answer, with the number and the place of a refusal, for each case of the code's
unfoldable pub view_answer : CodeAnswer → Answer
view_answer Accepted = accepted
view_answer Nothing = nothing
view_answer (Length n) = of_length n
view_answer (Refused r) = turned_away (refusal_of r)

-- a length of 0: no identity
unfoldable pub view_identity : ℕ → List ℕ → Option (List ℕ)
view_identity n octets = when eqb n 0 then none else some (take n octets)

-- what a call makes of its requester, with the lent buffer afterwards
abbrev pub view_served : CodeServed → List ℕ → Served
view_served r buffer = served (view_requester r.requester) (view_answer r.answer) buffer
