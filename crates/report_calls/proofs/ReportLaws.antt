-- Laws of a diagnostic request's reports, one an element.
-- Assumes nothing.
use Rattle.std.proofs.Common.{ℕ, ◌+◌, ◌≤◌, ◌<◌, min, ◌≡◌, List, arith, length, get_or}
use Rattle.std.proofs.Math.Option.{none, some}
use Rattle.reports.specs.Reports.{report_element}
use Rattle.model.specs.declared.Diagnostic.{Diagnostic}
use Rattle.model.specs.declared.Treatment.{Treatment}
use Rattle.model.specs.declared.Treatment.TheVariants.{Report, Incapable, Cancel, Identity}
use Rattle.model.specs.Diagnostics.{diagnostic_treatment, diagnostic_report, next_diagnostic}
use Rattle.requesters.specs.Views.{left}
use Rattle.requesters.proofs.DiagnosticLaws.{past_diagnostics}
use Rattle.report_calls.proofs.EventLaws.{left_next, left_none}

pub report-octets : (identity : List ℕ) (x : Diagnostic) (t : Treatment) → 0 < length (diagnostic_report identity x t)
unfolding diagnostic_report report_element
report-octets identity x Report = omega arith
report-octets identity x Incapable = omega arith
report-octets identity x Cancel = omega arith
report-octets identity x Identity = omega arith

module _ (identity : List ℕ) (xs : List Diagnostic) (first count : ℕ) where
  pub next_report : first < min count (length xs)
      → next_diagnostic identity (left first count xs)
      ≡ some (record { octets = diagnostic_report identity (get_or xs first past_diagnostics) (diagnostic_treatment (get_or xs first past_diagnostics).ty); rest = left (first + 1) count xs })
  unfolding next_diagnostic
  next_report h = rw (left_next xs first count past_diagnostics h)

  pub no_report : min count (length xs) ≤ first → next_diagnostic identity (left first count xs) ≡ none
  unfolding next_diagnostic
  no_report h = rw (left_none xs first count past_diagnostics h)
