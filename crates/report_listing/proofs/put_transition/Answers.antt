-- `report_listing::put_transition` meets its contract.
-- Assumes nothing.
use Rattle.std.proofs.Common.{◌≡◌, arith, length, rules}
use Rattle.texts.proofs.PutLaws.{short, at_most, both}
use Rattle.report_listing.specs.Listing.{transition_text}
use Rattle.report_listing.specs.Internal.{event_most}
use Rattle.report_listing.proofs.put_transition.Goals as goal

pub returns : goal.returns
unfolding transition_text
returns c = let e = c.args.e in
    let six : length e.source ≡ 6 = search (rules, c.well_formed) in
    let other : length e.target ≡ 6 = search (rules, c.well_formed) in
    at_most event_most (omega (arith, six, other))
    (both (both (both (both (both (both c.put_times.ensures c.put_colons.ensures) c.put_colons-2.ensures) (short c.field.ensures)) (short c.field-2.ensures)) (short c.field-3.ensures)) c.put_signals.ensures)
