-- `requests::check_header` meets its contract: each return rewrites with the tests that led there.
-- Assumes nothing.
use Rattle.std.proofs.Common.{eq-eqb, ne_eqb}
use Rattle.std.proofs.lemmas.Result.{err_from_is_err_and}
use Rattle.laws.specs.Choice.{when◌then◌else◌}
use Rattle.octets.proofs.RefusalLaws.{some_number}
use Rattle.requests.specs.Requests.{header_cause}
use Rattle.requests.proofs.check_header.Goals as goal

pub returns-in_err-check_head : goal.returns-in_err-check_head
unfolding header_cause when◌then◌else◌
returns-in_err-check_head c = let p = err_from_is_err_and c.from_residual.result c.from_residual.ensures.1 in
    rw (p.1, p.2, ← c.request_action.ensures, ← c.in_err-check_head.ensures, ne_eqb _ _ (some_number c.in_err-check_head.field-0.0))

pub returns-then-octet-eq0 : goal.returns-then-octet-eq0
unfolding header_cause when◌then◌else◌
returns-then-octet-eq0 c = rw (← c.request_action.ensures, ← c.in_ok-check_head.ensures, ← c.octet.ensures, eq-eqb _ _ c.if-octet-eq0.true)

pub returns : goal.returns
unfolding header_cause when◌then◌else◌
returns c = rw (← c.request_action.ensures, ← c.in_ok-check_head.ensures, ← c.octet.ensures, ne_eqb _ _ c.if-octet-eq0.false)
