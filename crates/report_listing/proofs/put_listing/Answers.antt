-- `report_listing::put_listing` meets its contract.
-- Assumes nothing.
use Rattle.std.proofs.Common.{refl, arith, ne_eqb}
use Rattle.laws.specs.Choice.{when◌then◌else◌}
use Rattle.octets.proofs.RefusalLaws.{some_number}
use Rattle.texts.proofs.PutLaws.{short, at_most, both}
use Rattle.report_listing.specs.Listing.{report_listing, report_listing_most}
use Rattle.report_listing.proofs.Laws.{readable}
use Rattle.report_listing.proofs.put_listing.Goals as goal

pub put_elements-requires : goal.put_elements-requires
put_elements-requires c = let r = readable _ _ _ _ c.in-Ok.ensures refl in (r.told, r.fine)

pub returns-in-Ok : goal.returns-in-Ok
unfolding report_listing when◌then◌else◌
returns-in-Ok c = let few = (readable _ _ _ _ c.in-Ok.ensures refl).few in
    rw (← c.in-Ok.ensures) (at_most report_listing_most (omega (arith, few)) (both (rw c.report_action-action.ensures at c.frame.ensures) c.put_elements.ensures))

pub returns-in-Err : goal.returns-in-Err
unfolding report_listing when◌then◌else◌
returns-in-Err c = rw (← c.in-Err.ensures, ne_eqb _ 0 (some_number c.in-Err.refusal.cause)) (at_most report_listing_most (omega arith) (short c.refusal.ensures))
