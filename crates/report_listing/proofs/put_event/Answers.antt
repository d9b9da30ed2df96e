-- `report_listing::put_event` meets its contract: by the type number.
-- Assumes nothing.
use Rattle.std.proofs.Common.{arith, ne_eqb}
use Rattle.laws.specs.Choice.{when◌then◌else◌}
use Rattle.report_reader.specs.Decoders.{decoded}
use Rattle.report_listing.specs.Listing.{event_text}
use Rattle.report_listing.proofs.put_event.Goals as goal

pub returns-in-0 : goal.returns-in-0
unfolding decoded event_text when◌then◌else◌
returns-in-0 c = rw (c.in-0.is, ← c.transition_in.ensures) c.put_transition.ensures

pub returns-in-1 : goal.returns-in-1
unfolding decoded event_text when◌then◌else◌
returns-in-1 c = rw (c.in-1.is, ← c.rsna_in.ensures) c.put_rsna.ensures

pub returns-in-2-to-255 : goal.returns-in-2-to-255
unfolding decoded event_text when◌then◌else◌
returns-in-2-to-255 c = rw (ne_eqb c.args.ty 0 (omega arith), ne_eqb c.args.ty 1 (omega arith), ← c.peer_link_in.ensures) c.put_peer_link.ensures
