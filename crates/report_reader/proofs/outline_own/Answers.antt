-- `report_reader::outline_own` meets its contract: each return rewrites with the tests that led there.
-- Assumes nothing.
use Rattle.std.proofs.Common.{refl, arith, lt-ltb, le-ltb}
use Rattle.laws.specs.Choice.{when◌then◌else◌}
use Rattle.octets.specs.Refusals.{short_element, bad_report_body}
use Rattle.report_reader.specs.Reader.{own_report_step}
use Rattle.report_reader.specs.Internal.{verdict_of}
use Rattle.report_reader.proofs.Laws.{refused_outline, diagnostic_outline, told_plain}
use Rattle.report_reader.proofs.outline_own.Goals as goal

pub returns-then-n-lt3 : goal.returns-then-n-lt3
unfolding own_report_step verdict_of when◌then◌else◌
returns-then-n-lt3 c = let a = c.args in
    rw (lt-ltb _ 3 c.if-n-lt3.true, c.at.ensures) (refused_outline a.form a.s.now a.kind a.at short_element a.at refl)

pub returns-then-s-at-gt-CANCELLED : goal.returns-then-s-at-gt-CANCELLED
unfolding own_report_step verdict_of when◌then◌else◌
returns-then-s-at-gt-CANCELLED c = let a = c.args in
    rw (le-ltb _ 3 c.if-n-lt3.false, lt-ltb 4 _ c.if-s-at-gt-CANCELLED.true, c.at-then-s-at-gt-CANCELLED.ensures) (refused_outline a.form a.s.now a.kind a.at bad_report_body a.at refl)

pub returns-in-Diagnostic : goal.returns-in-Diagnostic
unfolding own_report_step when◌then◌else◌
returns-in-Diagnostic c = let a = c.args in
    let pre = c.requires in
    rw (le-ltb _ 3 c.if-n-lt3.false, le-ltb 4 _ c.if-s-at-gt-CANCELLED.false, c.in-Diagnostic.is)
    (diagnostic_outline a.form a.s.now a.at a.n (omega (arith, pre.0, pre.1)) c.if-n-lt3.false (told_plain a.s.now a.at a.n pre.0 0))
