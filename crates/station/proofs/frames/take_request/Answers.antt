-- `station::frames::take_request` meets its contract: by what is admitted of the frame.
-- Assumes nothing.
use Rattle.std.proofs.Math.Seq.{set-get_or}
use Rattle.std.proofs.Common.{◌≡◌, refl, sym, ap, ◌∙◌, Bool, List, map, ltb, length, get_or, ne_eqb, rules}
use Rattle.laws.specs.Choice.{when◌then◌else◌}
use Rattle.laws.proofs.Arrays.{length_mapped}
use Rattle.octets.specs.Refusals.{no_refusal, refusal_of}
use Rattle.octets.proofs.RefusalLaws.{some_number}
use Rattle.requests.specs.Requests.{Request, request_read}
use Rattle.model.specs.Model.{requester_capacity}
use Rattle.model.specs.Stations.{take_kind}
use Rattle.requesters.specs.declared.Answer.TheVariants.{Accepted, Refused}
use Rattle.requesters.specs.Views.{view_requester, view_answer}
use Rattle.requesters.specs.declared.Requester.{Requester as CodeRequester}
use Rattle.station.specs.Internal.{place, answer_to}
use Rattle.station.specs.Views.{view_timer, view, view_outcome}
use Rattle.station.proofs.RequesterLaws.{past_requesters, listed}
use Rattle.station.proofs.CallLaws.{kept, taken, admitted-refusal, admitted-same, frame-taken}
use Rattle.station.proofs.frames.take_request.Goals as goal

pub returns-in-Ok : goal.returns-in-Ok
unfolding view view_timer view_outcome view_answer answer_to when◌then◌else◌
returns-in-Ok c = let a = c.args in
    let g = view a.g in
    let q = request_read a.read in
    let rs = a.g.requesters in
    let at = c.min-at.result in
    let x = get_or rs at past_requesters in
    let four : length rs ≡ requester_capacity = search (rules, length_mapped, c.well_formed.0) in
    let i = c.find-i.result in
    let at_place = c.find-i.ensures ∙ ap (λ (l : List CodeRequester). place a.source (map view_requester l)) (listed rs rs _ a.g.count c.min-end.ensures four) in
    let found : Bool = ltb i c.min-end.result in
    let same = c.in-Ok.ensures ∙ admitted-same a.destination found q (ap (λ (p : Request). p.refusal.number) (sym c.in-Ok.ensures)) in
    let fine = ap (λ (p : Request). p.refusal) c.in-Ok.ensures ∙ admitted-refusal a.destination found q in
    let is = c.renewed.ensures g.log c.logged_in.ensures ∙ ap (λ (p : Request). take_kind g.timer.now g.log p (view_requester x) p.kind) same ∙ sym (taken g.timer.now g.log q x q.kind) in
    frame-taken a.destination a.source q g a.g.count rs four refl i at_place found (ap (ltb i) c.min-end.ensures) no_refusal fine at c.min-at.ensures (record { requester = c.renewed.result; answer = Accepted }) refl is _ refl

pub returns-in-Err : goal.returns-in-Err
unfolding view view_timer view_outcome view_answer answer_to when◌then◌else◌
returns-in-Err c = let a = c.args in
    let g = view a.g in
    let q = request_read a.read in
    let rs = a.g.requesters in
    let at = c.min-at.result in
    let x = get_or rs at past_requesters in
    let four : length rs ≡ requester_capacity = search (rules, length_mapped, c.well_formed.0) in
    let i = c.find-i.result in
    let at_place = c.find-i.ensures ∙ ap (λ (l : List CodeRequester). place a.source (map view_requester l)) (listed rs rs _ a.g.count c.min-end.ensures four) in
    let found : Bool = ltb i c.min-end.result in
    let r = c.in-Err.refusal in
    let why = ap (λ (p : Request). p.refusal) c.in-Err.ensures ∙ admitted-refusal a.destination found q in
    let no = ne_eqb _ 0 (some_number r.cause) in
    frame-taken a.destination a.source q g a.g.count rs four refl i at_place found (ap (ltb i) c.min-end.ensures) (refusal_of r) why at c.min-at.ensures (record { requester = x; answer = Refused r }) (rw no) (rw no (sym (kept g.timer.now g.log q x q.kind))) _ (sym (set-get_or rs at past_requesters))
