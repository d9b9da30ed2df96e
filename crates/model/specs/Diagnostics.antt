-- Document 01: diagnostic requests: the late drop, what an accepted frame leaves, and what a report takes.
-- Assumes nothing.
use Rattle.std.specs.Prelude.{ℕ, ◌*◌, Bool, true, false, List, [], ◌∷◌, map, eqb, take}
use Rattle.std.proofs.Math.Option.{Option, none, some}
use Rattle.laws.specs.Members.{any}
use Rattle.laws.specs.Choice.{when◌then◌else◌}
use Rattle.units.specs.Time.{exceeds}
use Rattle.octets.specs.declared.numbers.Kind.TheVariants.{Diagnostic as KindDiagnostic}
use Rattle.octets.specs.Numbers.{successful, incapable}
use Rattle.requests.specs.declared.Element.{Element}
use Rattle.requests.specs.Requests.{Request}
use Rattle.model.specs.declared.Diagnostic.{Diagnostic}
use Rattle.model.specs.declared.Treatment.{Treatment}
use Rattle.model.specs.declared.Treatment.TheVariants.{Report, Incapable, Cancel, Identity}
use Rattle.model.specs.Model.{DiagnosticRequest}
use Rattle.model.specs.Dialogs.{replace}
use Rattle.model.specs.Fill.{Piece}
use Rattle.reports.specs.Reports.{report_element}

-- "type 0 (Cancel)"; "Diagnostic type 1 gives Successful with the identity; 2 to 255 give Incapable"
unfoldable pub diagnostic_treatment : ℕ → Treatment
diagnostic_treatment ty = when eqb ty 0 then Cancel else when eqb ty 1 then Identity else Incapable

-- ---- the late drop

-- "whose age since acceptance is more than its timeout times 1,000"; since takes the age
unfoldable pub is_late : (ℕ → ℕ → ℕ) → ℕ → ℕ → Diagnostic → Bool
is_late since now accepted x = exceeds (since now accepted) (x.timeout * 1000)

unfoldable pub on_time : (ℕ → ℕ → ℕ) → ℕ → ℕ → List Diagnostic → List Diagnostic
on_time since now accepted [] = []
on_time since now accepted (x ∷ xs) =
    when is_late since now accepted x then on_time since now accepted xs
    else x ∷ on_time since now accepted xs

-- "A diagnostic request with none left is over."
unfoldable pub unless_over : ℕ → ℕ → List Diagnostic → Option DiagnosticRequest
unless_over dialog accepted [] = none
unless_over dialog accepted (x ∷ xs) = some (record { dialog = dialog; accepted = accepted; elements = x ∷ xs })

unfoldable pub drop_late : (ℕ → ℕ → ℕ) → ℕ → Option DiagnosticRequest → Option DiagnosticRequest
drop_late since now none = none
drop_late since now (some r) = unless_over r.dialog r.accepted (on_time since now r.accepted r.elements)

-- ---- an accepted frame

abbrev pub is_cancel : Treatment → Bool
is_cancel Report = false
is_cancel Incapable = false
is_cancel Cancel = true
is_cancel Identity = false

abbrev pub holds_cancel : List Diagnostic → Bool
holds_cancel xs = any (λ x. is_cancel (diagnostic_treatment x.ty)) xs

abbrev pub diagnostic_of : Element → Diagnostic
diagnostic_of x = record { token = x.token; ty = x.ty; timeout = x.timeout }

-- the elements that a request asks for
unfoldable pub diagnostics_of : Request → List Diagnostic
diagnostics_of q = map diagnostic_of (take q.count q.elements)

-- "A diagnostic frame holding type 0 (Cancel) ends that console's diagnostic request, leaves no new one, and comes before the equal-token
-- rule"
unfoldable pub take_diagnostics : ℕ → Request → Option DiagnosticRequest → Option DiagnosticRequest
take_diagnostics now q o =
    when holds_cancel (diagnostics_of q) then none
    else replace (λ r. eqb q.dialog r.dialog) (unless_over q.dialog now (diagnostics_of q)) o

-- ---- a report

-- the report element of a diagnostic, by what its type decides; no request holds a Cancel
unfoldable pub diagnostic_report : List ℕ → Diagnostic → Treatment → List ℕ
diagnostic_report identity x Identity = report_element KindDiagnostic x.token x.ty successful identity
diagnostic_report identity x Incapable = report_element KindDiagnostic x.token x.ty incapable []
diagnostic_report identity x Cancel = report_element KindDiagnostic x.token x.ty incapable []
diagnostic_report identity x Report = report_element KindDiagnostic x.token x.ty incapable []

-- "Elements go in request order, a diagnostic one with one report."
unfoldable pub next_diagnostic : List ℕ → List Diagnostic → Option (Piece (List Diagnostic))
next_diagnostic identity [] = none
next_diagnostic identity (x ∷ xs) = some (record { octets = diagnostic_report identity x (diagnostic_treatment x.ty); rest = xs })
