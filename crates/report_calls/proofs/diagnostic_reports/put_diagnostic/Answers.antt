-- `report_calls::diagnostic_reports::put_diagnostic` meets its contract.
-- Assumes nothing.
use Rattle.std.proofs.Common.{ℕ, ◌≡◌, refl, List, [], take}
use Rattle.octets.specs.declared.numbers.Kind.TheVariants.{Diagnostic as KindDiagnostic}
use Rattle.octets.specs.Numbers.{incapable}
use Rattle.reports.specs.Reports.{report_element}
use Rattle.model.specs.declared.Diagnostic.{Diagnostic}
use Rattle.model.specs.declared.Treatment.{Treatment}
use Rattle.model.specs.declared.Treatment.TheVariants.{Report, Incapable, Cancel, Identity}
use Rattle.model.specs.Diagnostics.{diagnostic_report}
use Rattle.report_calls.proofs.diagnostic_reports.put_diagnostic.Goals as goal

without-identity : (i : List ℕ) (x : Diagnostic) (t : Treatment) → (t ≡ Identity → ⊥) → diagnostic_report i x t ≡ report_element KindDiagnostic x.token x.ty incapable []
unfolding diagnostic_report
without-identity i x Identity n = absurd (n refl)
without-identity i x Incapable n = refl
without-identity i x Cancel n = refl
without-identity i x Report n = refl

pub returns-in-Identity : goal.returns-in-Identity
unfolding diagnostic_report
returns-in-Identity c = rw (← c.diagnostic_treatment.ensures, c.in-Identity.is) c.put_list.ensures

pub returns-in_default : goal.returns-in_default
returns-in_default c = let a = c.args in
    rw (← c.diagnostic_treatment.ensures, without-identity (take 252 a.identity.now) a.x _ c.in_default.not-Identity) c.put_plain.ensures
