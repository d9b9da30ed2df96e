-- `report_listing::put_vendor` meets its contract.
-- Assumes nothing.
use Rattle.std.proofs.Common.{◌≡◌, arith, length, drop, length-take, length-drop, take_all, eq-eqb, ne_eqb, rules}
use Rattle.laws.specs.Choice.{when◌then◌else◌}
use Rattle.texts.proofs.PutLaws.{at_most, nothing, both}
use Rattle.report_listing.specs.Listing.{vendor_text}
use Rattle.report_listing.proofs.put_vendor.Goals as goal

pub returns-then-method : goal.returns-then-method
unfolding vendor_text when◌then◌else◌
returns-then-method c = rw (ne_eqb _ 254 c.if-method.true) (at_most 42 (omega arith) (nothing _ _))

pub returns : goal.returns
unfolding vendor_text when◌then◌else◌
returns c = let m = c.args.method in
    let l : length m ≡ 8 = search rules in
    let d₁ = length-drop 1 m in
    let d₄ = length-drop 4 m in
    rw (eq-eqb _ 254 c.if-method.false)
    (at_most 42 (omega (arith, l, d₁, d₄, length-take 3 (drop 1 m)))
    (both c.put_colons.ensures (rw (take_all 4 (drop 4 m) (omega (arith, l, d₄))) at c.put_colons-2.ensures)))
