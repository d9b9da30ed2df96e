-- `traces::places::report_call_end` meets its contract.
-- Assumes nothing.
use Rattle.laws.specs.Choice.{when◌then◌else◌}
use Rattle.std.proofs.Common.{lt-ltb, le-ltb, rules}
use Rattle.traces.specs.Records.{report_call_end}
use Rattle.traces.proofs.WalkLaws.{some_found, none_found, report_call-none}
use Rattle.traces.proofs.places.report_call_end.Goals as goal

pub returns-in_err-end : goal.returns-in_err-end
returns-in_err-end c = rw (report_call-none c.args.s.now _ (none_found _ c.in_err-end.ensures.place)) (search rules)

pub returns-then-octet-gt1 : goal.returns-then-octet-gt1
unfolding report_call_end when◌then◌else◌
returns-then-octet-gt1 c = rw (← c.octet.ensures, lt-ltb _ _ c.if-octet-gt1.true)

pub returns-then-bad_length : goal.returns-then-bad_length
unfolding report_call_end when◌then◌else◌
returns-then-bad_length c = rw (← c.octet.ensures, le-ltb _ _ c.if-octet-gt1.false, ← c.bad_length.ensures, c.if-bad_length.true)

pub returns : goal.returns
unfolding report_call_end when◌then◌else◌
returns c = let end = some_found c.in_ok-end.ensures.place in
    rw (← c.octet.ensures, le-ltb _ _ c.if-octet-gt1.false, ← c.bad_length.ensures, c.if-bad_length.false) c.in_ok-end.ensures.place
