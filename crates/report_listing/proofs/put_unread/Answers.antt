-- `report_listing::put_unread` meets its contract.
-- Assumes nothing.
use Rattle.std.proofs.Common.{arith, lt-ltb, le-ltb}
use Rattle.laws.specs.Choice.{when◌then◌else◌}
use Rattle.texts.proofs.PutLaws.{short, at_most, nothing}
use Rattle.report_listing.specs.Listing.{unread_text}
use Rattle.report_listing.specs.Internal.{unread_most}
use Rattle.report_listing.proofs.put_unread.Goals as goal

pub returns-in-0-to-2 : goal.returns-in-0-to-2
unfolding unread_text when◌then◌else◌
returns-in-0-to-2 c = rw (lt-ltb c.args.ty 3 (omega arith)) (at_most unread_most (omega arith) (nothing _ _))

pub returns-in-3-to-255 : goal.returns-in-3-to-255
unfolding unread_text when◌then◌else◌
returns-in-3-to-255 c = rw (le-ltb c.args.ty 3 (omega arith)) (short c.field.ensures)
