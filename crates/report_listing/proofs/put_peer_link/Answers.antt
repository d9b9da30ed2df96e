-- `report_listing::put_peer_link` meets its contract.
-- Assumes nothing.
use Rattle.std.proofs.Common.{◌≡◌, arith, length, rules}
use Rattle.texts.proofs.PutLaws.{short, at_most, both}
use Rattle.report_listing.specs.Listing.{peer_link_text}
use Rattle.report_listing.specs.Internal.{event_most}
use Rattle.report_listing.proofs.put_peer_link.Goals as goal

pub returns : goal.returns
unfolding peer_link_text
returns c = let e = c.args.e in
    let six : length e.peer ≡ 6 = search (rules, c.well_formed) in
    rw (← c.three.ensures)
    (at_most event_most (omega (arith, six))
    (both (both (both (both (both (both c.put_times.ensures c.put_colons.ensures) (short c.field.ensures)) (short c.field-2.ensures)) (short c.field-3.ensures)) (short c.field-4.ensures)) (short c.field-5.ensures)))
