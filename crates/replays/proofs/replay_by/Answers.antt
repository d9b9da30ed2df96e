-- `replays::replay_by` meets its contract. The invariant, `Replaying`: what is left of the trace gives what the whole gives.
-- Assumes nothing.
use Rattle.std.proofs.Common.{refl, arith}
use Rattle.traces.proofs.WalkLaws.{some_found, none_found, record_onward}
use Rattle.replays.proofs.Laws.{leaves, replay_start, replay_stop, replay_next}
use Rattle.replays.proofs.replay_by.Goals as goal

pub loop-end-init : goal.loop-end-init
loop-end-init g c = rw (leaves _ _ _ _ refl c.setup-nobody.ensures.outcome) (replay_start _)

pub loop-end-smaller : goal.loop-end-smaller
loop-end-smaller g c = let is = some_found c.in-Some.ensures in
    let on = record_onward c.args.s.now c.loop-end.at is.1 in
    omega (arith, on.0, on.1, is.0)

pub loop-end-preserved : goal.loop-end-preserved
loop-end-preserved g c = replay_next _ c.loop-end.invariant _ _ (some_found c.in-Some.ensures) c.call-station.ensures

pub returns : goal.returns
returns g c = replay_stop _ c.loop-end.invariant (none_found _ c.in_default.ensures)
