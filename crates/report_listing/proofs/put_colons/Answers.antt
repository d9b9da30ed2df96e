-- `report_listing::put_colons` meets its contract.
-- Assumes nothing.
use Rattle.std.proofs.Common.{◌-◌, arith, length, drop, length-drop, take_all}
use Rattle.texts.proofs.PutLaws.{short, at_most, both}
use Rattle.report_listing.specs.Listing.{colon_text}
use Rattle.report_listing.proofs.put_colons.Goals as goal

pub returns : goal.returns
unfolding colon_text
returns c = let o = c.args.o.now in
    let n = length-drop 1 o in
    at_most _ (omega (arith, n, c.requires)) (both (short c.hex.ensures) (rw (take_all (length o - 1) (drop 1 o) (omega (arith, n))) at c.hexes.ensures))
