-- `report_listing::put_input` meets its contract: each return rewrites with the tests that led there.
-- Assumes nothing.
use Rattle.std.proofs.Common.{◌-◌, arith, length, drop, length-drop, take_all, lt-ltb, le-ltb}
use Rattle.laws.specs.Choice.{when◌then◌else◌}
use Rattle.texts.proofs.PutLaws.{short, at_most}
use Rattle.report_listing.specs.Listing.{input_listing, report_listing_most}
use Rattle.report_listing.proofs.put_input.Goals as goal

pub returns-then-not-is_form : goal.returns-then-not-is_form
unfolding input_listing when◌then◌else◌
returns-then-not-is_form c = rw (← c.octet-form.ensures, ← c.is_form.ensures, c.if-not-is_form.true) (at_most report_listing_most (omega arith) (short (rw c.at.ensures at c.refusal.ensures)))

pub returns-then-input-lt7 : goal.returns-then-input-lt7
unfolding input_listing when◌then◌else◌
returns-then-input-lt7 c = rw (← c.octet-form.ensures, ← c.is_form.ensures, c.if-not-is_form.false, lt-ltb _ _ c.if-input-lt7.true) (at_most report_listing_most (omega arith) (short (rw c.at-then-input-lt7.ensures at c.refusal-then-input-lt7.ensures)))

pub returns : goal.returns
unfolding input_listing when◌then◌else◌
returns c = let s = c.args.input.now in
    rw (← c.octet-form.ensures, ← c.is_form.ensures, c.if-not-is_form.false, le-ltb _ _ c.if-input-lt7.false, ← c.address_at.ensures) (rw (take_all (length s - 7) (drop 7 s) (omega (arith, length-drop 7 s))) at c.put_listing.ensures)
