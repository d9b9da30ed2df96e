-- `report_reader::outline_event` meets its contract: by length, status and type number.
-- Assumes nothing.
use Rattle.std.proofs.Common.{refl, arith, ◌+◌, get_or, eq-eqb, ne_eqb, le-ltb}
use Rattle.laws.specs.Choice.{when◌then◌else◌}
use Rattle.octets.specs.declared.numbers.Kind.TheVariants.{Event}
use Rattle.octets.specs.Refusals.{bad_report_body}
use Rattle.report_reader.specs.Reader.{bare_step, event_step}
use Rattle.report_reader.specs.Internal.{verdict_of}
use Rattle.report_reader.proofs.Laws.{refused_outline, plain_outline, told_plain}
use Rattle.report_reader.proofs.outline_event.Goals as goal

pub returns-then-s-at-ne-SUCCESSFUL : goal.returns-then-s-at-ne-SUCCESSFUL
unfolding event_step bare_step verdict_of when◌then◌else◌
returns-then-s-at-ne-SUCCESSFUL c = let a = c.args in
    rw (ne_eqb _ 0 c.if-s-at-ne-SUCCESSFUL.true, ne_eqb _ 3 c.if-n-eq3.false, c.at.ensures) (refused_outline a.form a.s.now Event a.at bad_report_body a.at refl)

pub returns-in-3-to-255 : goal.returns-in-3-to-255
unfolding event_step when◌then◌else◌
returns-in-3-to-255 c = let a = c.args in
    let pre = c.requires in
    rw (eq-eqb _ 0 c.if-s-at-ne-SUCCESSFUL.false, le-ltb (get_or a.s.now (a.at + 3) 0) 3 (omega arith))
    (plain_outline a.form a.s.now a.at a.n (omega (arith, pre.1, pre.2)) pre.0 (told_plain a.s.now a.at a.n pre.1 0))
