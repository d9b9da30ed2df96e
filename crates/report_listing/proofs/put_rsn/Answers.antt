-- `report_listing::put_rsn` meets its contract.
-- Assumes nothing.
use Rattle.std.proofs.Common.{◌≡◌, arith, length, length-take, eq-eqb, ne_eqb, rules}
use Rattle.laws.specs.Choice.{when◌then◌else◌}
use Rattle.laws.proofs.Arrays.{take_within}
use Rattle.events.specs.RsnaEvents.{rsn_length}
use Rattle.texts.proofs.PutLaws.{at_most, nothing}
use Rattle.report_listing.specs.Listing.{rsn_text}
use Rattle.report_listing.proofs.put_rsn.Goals as goal

pub returns-then-size-eq0 : goal.returns-then-size-eq0
unfolding rsn_text when◌then◌else◌
returns-then-size-eq0 c = rw (eq-eqb _ 0 c.if-size-eq0.true) (at_most 49 (omega arith) (nothing _ _))

pub returns : goal.returns
unfolding rsn_text when◌then◌else◌
returns c = let a = c.args in
    let l : length a.rsn ≡ rsn_length = search rules in
    let n = c.min-n.result in
    let m = c.min-n.ensures in
    let k = length-take n a.rsn in
    rw (ne_eqb _ 0 c.if-size-eq0.false, ← take_within a.rsn rsn_length n l a.size m) (at_most 49 (omega (arith, l, m, k)) c.put_bare.ensures)
