-- `request_listing::put_listing` meets its contract.
-- Assumes nothing.
use Rattle.std.proofs.Common.{◌≡◌, ◌*◌, ◌≤◌, length, take, arith, ne_eqb, length-take, rules}
use Rattle.laws.specs.Choice.{when◌then◌else◌}
use Rattle.octets.proofs.RefusalLaws.{some_number}
use Rattle.texts.proofs.PutLaws.{short, at_most, both}
use Rattle.request_listing.specs.Listing.{request_listing, request_listing_most, element_most}
use Rattle.laws.proofs.Arrays.{length_mapped, take_within}
use Rattle.requests.specs.Elements.{element_capacity}
use Rattle.request_listing.proofs.put_listing.Goals as goal

pub returns-in-Ok : goal.returns-in-Ok
unfolding request_listing when◌then◌else◌
returns-in-Ok c = let r = c.in-Ok.q in
    let there : length r.elements ≡ element_capacity = search (rules, length_mapped) in
    let listed = take_within r.elements element_capacity _ there r.count c.min.ensures in
    let few : element_most * length (take r.count r.elements) ≤ element_most * element_capacity = omega (arith, length-take r.count r.elements, there) in
    rw c.in-Ok.is (both (rw c.request_action.ensures at c.frame.ensures) (at_most _ few (rw listed at c.put_lines.ensures)))

pub returns-in-Err : goal.returns-in-Err
unfolding request_listing when◌then◌else◌
returns-in-Err c = rw (c.in-Err.is, ne_eqb _ 0 (some_number c.in-Err.refusal.cause)) (at_most request_listing_most (omega arith) (short c.refusal.ensures))
