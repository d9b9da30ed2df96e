-- `report_listing::put_published` meets its contract.
-- Assumes nothing.
use Rattle.std.proofs.Common.{◌≡◌, arith, length, rules}
use Rattle.texts.proofs.PutLaws.{at_most, both}
use Rattle.report_listing.specs.Listing.{published_text}
use Rattle.report_listing.specs.Internal.{times_most}
use Rattle.report_listing.proofs.put_published.Goals as goal

pub returns : goal.returns
unfolding published_text
returns c = let t = c.args.t in
    let tsf : length t.tsf ≡ 8 = search (rules, c.well_formed) in
    let offset : length t.offset ≡ 10 = search (rules, c.well_formed) in
    let error : length t.error ≡ 5 = search (rules, c.well_formed) in
    at_most times_most (omega (arith, tsf, offset, error)) (both (both c.put_bare.ensures c.put_bare-2.ensures) c.put_bare-3.ensures)
