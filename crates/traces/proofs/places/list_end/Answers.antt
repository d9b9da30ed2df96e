-- `traces::places::list_end` meets its contract.
-- Assumes nothing.
use Rattle.traces.specs.Places.{list_end}
use Rattle.std.proofs.Common.{rules}
use Rattle.traces.proofs.WalkLaws.{behind-none, some_found, none_found}
use Rattle.traces.proofs.places.list_end.Goals as goal

pub returns-in_err-from : goal.returns-in_err-from
unfolding list_end
returns-in_err-from c = rw (none_found _ c.in_err-from.ensures.place, behind-none c.args.s.now _) (search rules)

pub returns : goal.returns
unfolding list_end
returns c = rw (← c.size.ensures.0, ← (some_found c.in_ok-from.ensures.place).0) c.behind-2.ensures.place
