-- `requests::read_element` meets its contract: each return rewrites with the tests that led there.
-- Assumes nothing.
use Rattle.std.proofs.Common.{refl, sym, ◌∙◌, arith}
use Rattle.std.proofs.lemmas.Result.{err_from_is_err_and}
use Rattle.octets.proofs.ElementLaws.{at_place, no_place}
use Rattle.octets.proofs.RefusalLaws.{some_number}
use Rattle.requests.proofs.OneLaws.{one-past_end, one-behind, one-within, one-other, one-short, one_token, one-refused, one_found}
use Rattle.requests.proofs.read_element.Goals as goal

pub returns-in_default : goal.returns-in_default
returns-in_default c = rw c.at.ensures (one-past_end _ (no_place c.in_default.ensures) refl)

pub returns-then-end-s : goal.returns-then-end-s
returns-then-end-s c = rw c.at-then-end-s.ensures (one-behind _ (at_place c.in-Some.ensures).is (at_place c.in-Some.ensures).some c.if-end-s.true)

pub returns-then-octet-request_id : goal.returns-then-octet-request_id
returns-then-octet-request_id c = rw c.at-then-octet-request_id.ensures (one-other _ (at_place c.in-Some.ensures).is (at_place c.in-Some.ensures).some c.if-end-s.false (λ i. c.if-octet-request_id.true (c.octet.ensures ∙ i ∙ sym c.request_id.ensures)))

pub returns-then-size-least_body : goal.returns-then-size-least_body
returns-then-size-least_body c = rw c.at-then-size-least_body.ensures (one-short _ (at_place c.in-Some.ensures).is (at_place c.in-Some.ensures).some c.if-end-s.false (sym c.octet.ensures ∙ c.if-octet-request_id.false ∙ c.request_id.ensures) (rw (← c.size.ensures.0, ← c.least_body.ensures) c.if-size-least_body.true))

pub returns-then-zero_token : goal.returns-then-zero_token
returns-then-zero_token c = rw c.at-then-zero_token.ensures (one_token _ (at_place c.in-Some.ensures).is (at_place c.in-Some.ensures).some c.if-end-s.false (sym c.octet.ensures ∙ c.if-octet-request_id.false ∙ c.request_id.ensures) (rw (← c.size.ensures.0, ← c.least_body.ensures) c.if-size-least_body.false) (rw (← c.octet-2.ensures) (sym c.zero_token.ensures ∙ c.if-zero_token.true)))

pub subelements_of-requires : goal.subelements_of-requires
subelements_of-requires c = (omega arith, one-within _ (at_place c.in-Some.ensures).is (at_place c.in-Some.ensures).some (rw (← c.size.ensures.0) c.size.ensures.1))

pub returns-in_err-subs : goal.returns-in_err-subs
returns-in_err-subs c = let p = err_from_is_err_and c.from_residual.result c.from_residual.ensures.1 in
    rw (p.1, p.2) (one-refused _ (at_place c.in-Some.ensures).is (at_place c.in-Some.ensures).some c.if-end-s.false (sym c.octet.ensures ∙ c.if-octet-request_id.false ∙ c.request_id.ensures) (rw (← c.size.ensures.0, ← c.least_body.ensures) c.if-size-least_body.false) (rw (← c.octet-2.ensures) (sym c.zero_token.ensures ∙ c.if-zero_token.false)) _ c.in_err-subs.ensures.walked (some_number _))

pub returns : goal.returns
returns c = rw c.element_of.ensures (one_found _ (at_place c.in-Some.ensures).is (at_place c.in-Some.ensures).some c.if-end-s.false (sym c.octet.ensures ∙ c.if-octet-request_id.false ∙ c.request_id.ensures) (rw (← c.size.ensures.0, ← c.least_body.ensures) c.if-size-least_body.false) (rw (← c.octet-2.ensures) (sym c.zero_token.ensures ∙ c.if-zero_token.false)) _ c.in_ok-subs.ensures.walked refl)
