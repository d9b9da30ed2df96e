-- `report_listing::put_rsna` meets its contract.
-- Assumes nothing.
use Rattle.std.proofs.Common.{◌≡◌, arith, length, rules}
use Rattle.texts.proofs.PutLaws.{short, at_most, both}
use Rattle.report_listing.specs.Listing.{rsna_text}
use Rattle.report_listing.specs.Internal.{event_most}
use Rattle.report_listing.proofs.put_rsna.Goals as goal

pub returns : goal.returns
unfolding rsna_text
returns c = let e = c.args.e in
    let six : length e.target ≡ 6 = search (rules, c.well_formed) in
    let four : length e.authentication ≡ 4 = search (rules, c.well_formed) in
    at_most event_most (omega (arith, six, four))
    (both (both (both (both (both (both c.put_times.ensures c.put_colons.ensures) c.put_colons-2.ensures) (short c.field.ensures)) c.put_vendor.ensures) (short c.field-2.ensures)) c.put_rsn.ensures)
