-- `report_reader::outline_typed` meets its contract: each return rewrites with the tests that led there.
-- Assumes nothing.
use Rattle.std.proofs.Common.{refl, sym, ◌∙◌, arith, ne_eqb}
use Rattle.laws.specs.Choice.{when◌then◌else◌}
use Rattle.octets.specs.declared.numbers.Kind.TheVariants.{Event}
use Rattle.octets.specs.Refusals.{bad_report_body}
use Rattle.report_reader.specs.Reader.{typed_step}
use Rattle.report_reader.specs.Internal.{verdict_of}
use Rattle.report_reader.proofs.Laws.{event_least, refused_outline, logged_outline, told_logged}
use Rattle.report_reader.proofs.outline_typed.Goals as goal

pub returns-then-not-is_event_length : goal.returns-then-not-is_event_length
unfolding typed_step verdict_of when◌then◌else◌
returns-then-not-is_event_length c = let a = c.args in
    rw (ne_eqb _ 3 c.requires.0, ← c.is_event_length.ensures, c.if-not-is_event_length.true, c.at.ensures) (refused_outline a.form a.s.now Event a.at bad_report_body a.at refl)

pub returns : goal.returns
unfolding typed_step when◌then◌else◌
returns c = let a = c.args in
    let pre = c.requires in
    let least = event_least a.form a.s.now a.at a.n _ (sym c.is_event_length.ensures ∙ c.if-not-is_event_length.false) in
    rw (ne_eqb _ 3 pre.0, ← c.is_event_length.ensures, c.if-not-is_event_length.false) (logged_outline a.form a.s.now a.at a.n (omega (arith, pre.2, pre.3)) least (told_logged a.s.now a.at a.n pre.2))
