-- `requests::has_token` meets its contract.
-- Assumes nothing.
use Rattle.std.proofs.Common.{eqb, rules, tests}
use Rattle.std.proofs.lemmas.Iterator.{YieldsList-from_slice}
use Rattle.laws.proofs.Tests.{any_from_items}
use Rattle.requests.specs.declared.Element.{Element}
use Rattle.requests.proofs.has_token.Goals as goal

pub returns : goal.returns
returns c = any_from_items (λ (e : Element). eqb e.token c.args.token) _ _ _ c.any.ensures.ran (YieldsList-from_slice c.args.es.now cc) (λ x b q k. search (rules, tests))
