-- `traces::places::writer_call_end` meets its contract.
-- Assumes nothing.
use Rattle.laws.specs.Choice.{when◌then◌else◌}
use Rattle.traces.specs.Records.{writer_call_end}
use Rattle.std.proofs.Common.{rules, sym}
use Rattle.traces.proofs.WalkLaws.{writer_call-none, is_found, some_found, none_found}
use Rattle.traces.proofs.places.writer_call_end.Goals as goal

pub returns-then-bad_length : goal.returns-then-bad_length
unfolding writer_call_end when◌then◌else◌
returns-then-bad_length c = rw (← c.bad_length.ensures, c.if-bad_length.true)

pub returns-then-not-good_action : goal.returns-then-not-good_action
unfolding writer_call_end when◌then◌else◌
returns-then-not-good_action c = rw (← c.bad_length.ensures, c.if-bad_length.false, ← c.octet-action.ensures, ← c.good_action.ensures, c.if-not-good_action.true)

pub returns-in_err-from : goal.returns-in_err-from
unfolding writer_call_end when◌then◌else◌
returns-in_err-from c = rw (writer_call-none c.args.s.now _ (none_found _ c.in_err-from.ensures.place)) (search rules)

pub returns-in_err-w : goal.returns-in_err-w
unfolding writer_call_end when◌then◌else◌
returns-in_err-w c =
    rw (← c.bad_length.ensures, c.if-bad_length.false, ← c.octet-action.ensures, ← c.good_action.ensures, c.if-not-good_action.false, ← c.from.ensures, ← c.octet.ensures, ← (some_found c.in_ok-from.ensures.place).0, none_found _ c.in_err-w.ensures) (search rules)

pub returns : goal.returns
unfolding writer_call_end when◌then◌else◌
returns c = let all = some_found c.in_ok-w.ensures in
    rw (← c.bad_length.ensures, c.if-bad_length.false, ← c.octet-action.ensures, ← c.good_action.ensures, c.if-not-good_action.false, ← c.from.ensures, ← c.octet.ensures, ← (some_found c.in_ok-from.ensures.place).0, all.0) (sym (is_found _ _ all.1))
