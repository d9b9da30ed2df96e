-- `requests::read_request` meets its contract.
-- Assumes nothing.
use Rattle.std.proofs.Common.{sym, ap, ◌∙◌, ne_eqb}
use Rattle.laws.specs.Choice.{when◌then◌else◌}
use Rattle.octets.specs.Frames.{frame_kind}
use Rattle.octets.proofs.RefusalLaws.{some_number}
use Rattle.requests.specs.Requests.{read_request}
use Rattle.requests.proofs.Laws.{header_length}
use Rattle.requests.proofs.read_request.Goals as goal

pub returns-in-Err : goal.returns-in-Err
unfolding read_request when◌then◌else◌
returns-in-Err c = let kind = c.frame_kind-kind.ensures ∙ ap (frame_kind _) c.request_action.ensures in
    rw (c.at.ensures, ← kind, ← c.in-Err.ensures, ne_eqb _ _ (some_number c.in-Err.cause))

pub read_elements-requires : goal.read_elements-requires
read_elements-requires c = header_length _ _ (sym c.in_default.ensures)

pub returns : goal.returns
unfolding read_request when◌then◌else◌
returns c = let kind = c.frame_kind-kind.ensures ∙ ap (frame_kind _) c.request_action.ensures in
    rw (← kind, ← c.in_default.ensures) c.read_elements.ensures
