-- `traces::elements::traced_length` meets its contract: it is the length of a body that starts with 254.
-- Assumes nothing.
use Rattle.std.proofs.Common.{◌≡◌, arith, sym}
use Rattle.laws.specs.Choice.{when◌then◌else◌}
use Rattle.subelements.specs.Subelements.{length_of}
use Rattle.subelements.proofs.Tables.{length_small, known_id}
use Rattle.traces.proofs.WalkLaws.{is_found}
use Rattle.traces.proofs.elements.traced_length.Goals as goal

pub returns-in-0-clause-length : goal.returns-in-0-clause-length
unfolding length_of when◌then◌else◌
returns-in-0-clause-length c = rw (← c.length_of.ensures, c.in-0.is)

pub returns-in_default-clause-length : goal.returns-in_default-clause-length
unfolding length_of when◌then◌else◌
returns-in_default-clause-length c = rw (← c.length_of.ensures) (sym (is_found _ _ (omega arith)))

pub returns-in_default-clause-known : goal.returns-in_default-clause-known
returns-in_default-clause-known c = let a = c.args in
    let some : c.length_of.result ≡ 0 → ⊥ = λ z. omega arith in
    (rw c.length_of.ensures (length_small a.ty a.id 254), known_id a.ty a.id 254 (rw c.length_of.ensures at some))
