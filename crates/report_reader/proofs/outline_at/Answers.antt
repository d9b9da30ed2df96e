-- `report_reader::outline_at` meets its contract: each return rewrites with the tests that led there.
-- Assumes nothing.
use Rattle.std.proofs.Common.{refl, ◌∙◌, length, arith, ne_eqb}
use Rattle.laws.specs.Choice.{when◌then◌else◌}
use Rattle.octets.proofs.ElementLaws.{piece_ends, at_place, no_place}
use Rattle.octets.specs.Refusals.{element_past_end}
use Rattle.report_reader.specs.Reader.{step_at}
use Rattle.report_reader.specs.Internal.{verdict_of}
use Rattle.report_reader.proofs.Laws.{refused_outline, skipped_outline}
use Rattle.report_reader.proofs.outline_at.Goals as goal

pub returns-in_default : goal.returns-in_default
unfolding step_at verdict_of when◌then◌else◌
returns-in_default c = let a = c.args in
    rw (← no_place c.in_default.ensures, c.at.ensures) (refused_outline a.form a.s.now a.kind a.at element_past_end a.at refl)

pub returns-then-octet-report_id : goal.returns-then-octet-report_id
unfolding step_at verdict_of when◌then◌else◌
returns-then-octet-report_id c = let a = c.args in
    let p = at_place c.in-Some.ensures in
    rw (← p.is, ne_eqb _ 0 p.some, ← c.octet.ensures, ← c.report_id.ensures, ne_eqb _ _ c.if-octet-report_id.true) (skipped_outline a.form a.s.now a.kind a.at _ refl)

pub outline_own-requires : goal.outline_own-requires
outline_own-requires c = let a = c.args in
    let p = at_place c.in-Some.ensures in
    let e = piece_ends a.s.now a.at (length a.s.now) (λ z. p.some (p.is ∙ z)) in
    (omega (arith, c.size.ensures.0, p.is, e.is), omega (arith, p.is, e.within))
