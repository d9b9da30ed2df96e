-- `requesters::diagnostic_requests::request_of` meets its contract.
-- Assumes nothing.
use Rattle.std.proofs.Common.{◌≡◌, arith, length, take, length-take-le, rules}
use Rattle.requests.specs.Elements.{element_capacity}
use Rattle.laws.proofs.Arrays.{length_mapped}
use Rattle.requesters.specs.Views.{view_diagnostics}
use Rattle.requesters.proofs.DiagnosticLaws.{unless-over}
use Rattle.requesters.proofs.diagnostic_requests.request_of.Goals as goal

pub returns : goal.returns
unfolding view_diagnostics
returns c = let a = c.args in let eight : length a.k.elements ≡ element_capacity = search (rules, length_mapped) in unless-over a.dialog a.accepted.0 (take a.k.count a.k.elements) a.k.count (length-take-le a.k.count a.k.elements (omega arith))
