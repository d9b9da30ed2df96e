-- `report_listing::put_step` meets its contract: the octets behind the status stand in the frame.
-- Assumes nothing.
use Rattle.std.proofs.Common.{◌≡◌, ◌+◌, ◌-◌, refl, arith}
use Rattle.laws.specs.Choice.{when◌then◌else◌}
use Rattle.octets.proofs.PlaceLaws.{octets_part}
use Rattle.texts.proofs.PutLaws.{nothing}
use Rattle.report_listing.specs.Internal.{step_line, step_most}
use Rattle.report_listing.proofs.put_step.Goals as goal

pub returns-in-Some : goal.returns-in-Some
unfolding step_line step_most when◌then◌else◌
returns-in-Some c = let a = c.args in
    let f = c.in-Some.f in
    let n = f.element.length in
    let e : f.rest + n - f.rest ≡ n = omega arith in
    rw (c.in-Some.is, octets_part a.s.now n f.rest (rw c.in-Some.is at c.requires refl)) (rw e at c.put_element.ensures)

pub returns-in-None : goal.returns-in-None
unfolding step_line step_most when◌then◌else◌
returns-in-None c = rw c.in-None.is (nothing _ _)
