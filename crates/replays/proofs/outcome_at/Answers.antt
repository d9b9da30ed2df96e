-- `replays::outcome_at` meets its contract: what the record is picks its call.
-- Assumes nothing.
use Rattle.std.proofs.Common.{◌≡◌, refl, sym, [], ne_eqb, get_or}
use Rattle.laws.specs.Choice.{when◌then◌else◌}
use Rattle.traces.specs.declared.places.RecordKind.TheVariants.{Setup, Clock, LogTransition, TakeFrame, Report, Roam, ChangeNetwork, LogRsna, LogPeerLink}
use Rattle.traces.specs.Records.{IsUnknown}
use Rattle.replays.specs.Replay.{station_after}
use Rattle.replays.proofs.Laws.{leaves}
use Rattle.replays.proofs.outcome_at.Goals as goal

pub returns-in-Some-Setup : goal.returns-in-Some-Setup
unfolding station_after when◌then◌else◌
returns-in-Some-Setup c = rw (← c.in-Some-Setup.ensures, c.in-Some-Setup.field-0-is) (leaves _ _ [] _ refl c.set_up.ensures)

pub returns-in-Some-Clock : goal.returns-in-Some-Clock
unfolding station_after when◌then◌else◌
returns-in-Some-Clock c = rw (← c.in-Some-Clock.ensures, c.in-Some-Clock.field-0-is) (leaves _ _ [] _ refl c.tick.ensures)

pub returns-in-Some-LogTransition : goal.returns-in-Some-LogTransition
unfolding station_after when◌then◌else◌
returns-in-Some-LogTransition c = rw (← c.in-Some-LogTransition.ensures, c.in-Some-LogTransition.field-0-is) (leaves _ _ [] _ refl c.log_transition.ensures)

pub returns-in-Some-TakeFrame : goal.returns-in-Some-TakeFrame
unfolding station_after when◌then◌else◌
returns-in-Some-TakeFrame c = rw (← c.in-Some-TakeFrame.ensures, c.in-Some-TakeFrame.field-0-is) (leaves _ _ [] _ refl c.take_frame.ensures)

pub returns-in-Some-Report : goal.returns-in-Some-Report
unfolding station_after when◌then◌else◌
returns-in-Some-Report c = rw (← c.in-Some-Report.ensures, c.in-Some-Report.field-0-is) (leaves _ _ _ _ refl c.report_at.ensures.outcome)

pub returns-in-Some-Roam : goal.returns-in-Some-Roam
unfolding station_after when◌then◌else◌
returns-in-Some-Roam c = rw (← c.in-Some-Roam.ensures, c.in-Some-Roam.field-0-is) (leaves _ _ [] _ refl c.roam.ensures)

pub returns-in-Some-ChangeNetwork : goal.returns-in-Some-ChangeNetwork
unfolding station_after when◌then◌else◌
returns-in-Some-ChangeNetwork c = rw (← c.in-Some-ChangeNetwork.ensures, c.in-Some-ChangeNetwork.field-0-is) (leaves _ _ [] _ refl c.change_network.ensures)

pub returns-in-Some-LogRsna : goal.returns-in-Some-LogRsna
unfolding station_after when◌then◌else◌
returns-in-Some-LogRsna c = rw (← c.in-Some-LogRsna.ensures, c.in-Some-LogRsna.field-0-is) (leaves _ _ [] _ refl c.log_rsna.ensures)

pub returns-in-Some-LogPeerLink : goal.returns-in-Some-LogPeerLink
unfolding station_after when◌then◌else◌
returns-in-Some-LogPeerLink c = rw (← c.in-Some-LogPeerLink.ensures, c.in-Some-LogPeerLink.field-0-is) (leaves _ _ [] _ refl c.log_peer_link.ensures)

pub returns-in-Some-WriteRequest : goal.returns-in-Some-WriteRequest
unfolding station_after when◌then◌else◌
returns-in-Some-WriteRequest c = rw (← c.in-Some-WriteRequest.ensures, c.in-Some-WriteRequest.field-0-is, c.unmoved.ensures)

pub returns-in-Some-ReadReport : goal.returns-in-Some-ReadReport
unfolding station_after when◌then◌else◌
returns-in-Some-ReadReport c = rw (← c.in-Some-ReadReport.ensures, c.in-Some-ReadReport.field-0-is, c.unmoved-in-Some-ReadReport.ensures)

pub returns-in-Some-Explain : goal.returns-in-Some-Explain
unfolding station_after when◌then◌else◌
returns-in-Some-Explain c = rw (← c.in-Some-Explain.ensures, c.in-Some-Explain.field-0-is, c.unmoved-in-Some-Explain.ensures)

pub returns-in-None : goal.returns-in-None
unfolding station_after when◌then◌else◌
returns-in-None c = let n = get_or c.args.s.now c.args.at 0 in let un : IsUnknown n = c.in-None.ensures in
    rw (ne_eqb n 0 (λ (e : n ≡ 0). un Setup (sym e)), ne_eqb n 1 (λ (e : n ≡ 1). un Clock (sym e)), ne_eqb n 2 (λ (e : n ≡ 2). un LogTransition (sym e)), ne_eqb n 3 (λ (e : n ≡ 3). un TakeFrame (sym e)), ne_eqb n 4 (λ (e : n ≡ 4). un Report (sym e)), ne_eqb n 5 (λ (e : n ≡ 5). un Roam (sym e)), ne_eqb n 6 (λ (e : n ≡ 6). un ChangeNetwork (sym e)), ne_eqb n 7 (λ (e : n ≡ 7). un LogRsna (sym e)), ne_eqb n 8 (λ (e : n ≡ 8). un LogPeerLink (sym e)), c.unmoved-in-None.ensures)
