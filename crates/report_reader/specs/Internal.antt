-- Nobody has to believe this file: it has what the contracts of functions inside this crate speak of.
-- What the validation of a frame sees of a step, and the step by that and the frame: proofs/Laws.antt has step_of s at (verdict_of (step_at form s kind at)) ≡ step_at form s kind at.
-- Assumes nothing.
use Rattle.std.specs.Prelude.{ℕ, ◌+◌, ◌-◌, ◌≤◌, ◌≡◌, Bool, true, false, not, List, length, get_or, Result, Ok, Err}
use Rattle.laws.specs.Choice.{when◌then◌else◌}
use Rattle.octets.specs.declared.numbers.Kind.{Kind}
use Rattle.octets.specs.declared.numbers.Kind.TheVariants.{Event as EventKind, Diagnostic}
use Rattle.octets.specs.Refusals.{Refusal, bad_time, no_refusal, refusal_of}
use Rattle.report_reader.specs.declared.Element.{Element}
use Rattle.octets.specs.declared.refusals.Refusal.{Refusal as CodeRefusal}
use Rattle.report_reader.specs.declared.Verdict.{Verdict as CodeVerdict}
use Rattle.report_reader.specs.declared.Verdict.TheVariants.{Skipped, Plain, Logged}
use Rattle.report_reader.specs.declared.Walk.{Walk as CodeWalk}
use Rattle.report_reader.specs.Reader.{Step, refused_step, plain_element, found_step, good_time_at, diagnostic_step, Reading}

pub record Verdict : Type 0 where
  pub refusal : Refusal
  pub found : Bool
  pub logged : Bool
  pub subs : ℕ
  pub next : ℕ

-- all but the fields that are only handed out
unfoldable pub verdict_of : Step → Verdict
verdict_of t = record { refusal = t.refusal; found = t.found; logged = t.element.logged; subs = t.element.subs; next = t.next.at }

-- as code gives it
abbrev pub verdict_given : CodeVerdict → Verdict
verdict_given (Skipped next) = record { refusal = no_refusal; found = false; logged = false; subs = 0; next = next }
verdict_given (Plain next subs) = record { refusal = no_refusal; found = true; logged = false; subs = subs; next = next }
verdict_given (Logged next) = record { refusal = no_refusal; found = true; logged = true; subs = 0; next = next }

abbrev pub verdict_read : Result CodeVerdict CodeRefusal → Verdict
verdict_read (Ok v) = verdict_given v
verdict_read (Err r) = record { refusal = refusal_of r; found = false; logged = false; subs = 0; next = 0 }

-- what it keeps of a reading: of the elements only their number
pub record Walk : Type 0 where
  pub refusal : Refusal
  pub at : ℕ
  pub count : ℕ

abbrev pub walk_kept : CodeWalk → Walk
walk_kept w = record { refusal = no_refusal; at = w.at; count = w.count }

abbrev pub walk_read : Result CodeWalk CodeRefusal → Walk
walk_read (Ok w) = walk_kept w
walk_read (Err r) = record { refusal = refusal_of r; at = 0; count = 0 }

abbrev pub walk_of : Reading → Walk
walk_of x = record { refusal = x.refusal; at = x.at; count = length x.elements }

-- ---- the fields of what was found at a position

unfoldable pub found_element : List ℕ → ℕ → Verdict → Element
found_element s at v = record {
  token = get_or s (at + 2) 0;
  ty = get_or s (at + 3) 0;
  status = get_or s (at + 4) 0;
  length = v.next - (at + 5);
  subs = v.subs;
  logged = v.logged;
}

-- what was found stands in the frame, with its token, type and status
pub record Fits (s : List ℕ) (at : ℕ) (v : Verdict) : Type 0 where
  pub head : at + 5 ≤ v.next
  pub within : v.next ≤ length s

-- an element with its fields; or the refusal alone; or, of another ID, the next position alone
unfoldable pub step_of : List ℕ → ℕ → Verdict → Step
step_of s at v =
    when v.found then found_step (found_element s at v) (at + 5) v.next
    else record { refusal = v.refusal; found = false; element = plain_element 0 0 0 0 0; rest = 0; next = record { at = v.next } }

-- ---- an element's verdict in two steps: its outline, with the length of its event, and then what it holds

-- the time of an event
unfoldable pub timed_verdict : ℕ → List ℕ → ℕ → Verdict → Verdict
timed_verdict form s at v =
    when not v.logged then v
    else when not (good_time_at form s (at + 5)) then verdict_of (refused_step bad_time at)
    else v

-- or the subelements of a diagnostic
abbrev pub held_by : ℕ → List ℕ → Kind → ℕ → Verdict → Verdict
held_by form s EventKind at v = timed_verdict form s at v
held_by form s Diagnostic at v = verdict_of (diagnostic_step s at (v.next - (at + 2)))

unfoldable pub held : ℕ → List ℕ → Kind → ℕ → Verdict → Verdict
held form s kind at v = when not v.found then v else held_by form s kind at v

-- what it holds stands in the frame
pub record Held (s : List ℕ) (at : ℕ) (v : Verdict) : Type 0 where
  pub fits : v.found ≡ true → Fits s at v
  pub timely : v.logged ≡ true → at + 14 ≤ length s

-- the outline of a step: with what it holds, it is the step's verdict
pub record Outline (form : ℕ) (s : List ℕ) (kind : Kind) (at : ℕ) (v : Verdict) (t : Step) : Type 0 where
  pub stands : Held s at v
  pub told : held form s kind at v ≡ verdict_of t

abbrev pub EventOutline : ℕ → List ℕ → ℕ → Verdict → Step → Type 0
EventOutline form s at v t = Outline form s EventKind at v t
