-- `replays::report_at` meets its contract.
-- Assumes nothing.
use Rattle.std.proofs.Common.{◌≡◌, ap, ◌∙◌, ◌≤◌, arith, length, replicate, length-take-le, take_at}
use Rattle.std.proofs.lemmas.List.{length-replicate}
use Rattle.laws.proofs.Arrays.{take_within}
use Rattle.station.specs.Views.{view_outcome}
use Rattle.traces.specs.Places.{longest_length}
use Rattle.replays.proofs.report_at.Goals as goal

pub returns-clause-outcome : goal.returns-clause-outcome
returns-clause-outcome c = let call = c.report_call_at-c.result in
    let n = c.min-length.result in
    let filled = replicate longest_length call.fill in
    let whole : length filled ≡ longest_length = length-replicate longest_length call.fill in
    let lent = take_within filled longest_length n whole call.length c.min-length.ensures in
    let few : n ≤ length filled = omega (arith, whole, c.min-length.ensures) in
    let left : length c.report-outcome.new.buf ≡ n = c.report-outcome.auto.buf ∙ length-take-le n filled few in
    ap (view_outcome c.report-outcome.result) (take_at c.report-outcome.new.buf _ n left) ∙ rw (← c.report_call_at-c.ensures) (rw lent at c.report-outcome.ensures)
