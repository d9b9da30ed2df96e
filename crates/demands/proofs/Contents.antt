-- What each next element of a request tells: of events, by where the log's entries come from; of diagnostics, by the identity.
-- Assumes nothing.
use Rattle.std.proofs.Common.{ℕ, zero, suc, ◌≤◌, ◌<◌, ◌≡◌, refl, sym, ap, ◌∙◌, true, List, [], ◌∷◌, map, arith, le_of_suc-le-suc, not-suc-le-zero, length, get_or}
use Rattle.std.proofs.Math.Option.{Option, none, some, some-injective}
use Rattle.laws.specs.Members.{Among, first, later}
use Rattle.laws.proofs.Members.{among_map, all_among}
use Rattle.laws.proofs.Choice.{either, never}
use Rattle.units.specs.Time.{elapsed_since}
use Rattle.octets.specs.declared.numbers.Kind.{Kind}
use Rattle.octets.specs.declared.numbers.Kind.TheVariants.{Event, Diagnostic}
use Rattle.octets.specs.Numbers.{successful, incapable}
use Rattle.requests.specs.declared.Element.{Element}
use Rattle.events.specs.declared.Entry.{Entry}
use Rattle.events.specs.Loggings.{Logging, entry_for}
use Rattle.identities.specs.Identity.{good_identity}
use Rattle.reports.specs.Reports.{report_element, event_element}
use Rattle.model.specs.declared.Diagnostic.{Diagnostic as DiagnosticElement}
use Rattle.model.specs.declared.Treatment.{Treatment}
use Rattle.model.specs.declared.Treatment.TheVariants.{Report, Incapable, Cancel, Identity}
use Rattle.model.specs.Model.{EventRequest, Call}
use Rattle.model.specs.Fill.{Piece}
use Rattle.events.specs.Log.{past_log}
use Rattle.model.specs.Events.{next_event_place, report_front, treat_front, next_from, next_event, without, event_treatment}
use Rattle.model.specs.Diagnostics.{diagnostic_treatment, diagnostic_report, next_diagnostic}
use Rattle.report_reader.specs.Contents.{Content, status_only, logged_event, with_subelements, Valid, content_octets}
use Rattle.model.specs.Sound.{LoggedBy}
use Rattle.model.proofs.NextEvent.{next-event}
use Rattle.model.proofs.CallLaws.{log-good}
use Rattle.demands.specs.StationRoundTrip.{WellFormed, Truthful}
use Rattle.demands.proofs.Filled.{Tells}
use Rattle.identities.proofs.Subelements.{good_listed}

-- it may be told in a frame of its kind, and it is so
abbrev pub Good : List ℕ → List Call → List Entry → (kind : Kind) → Content kind → Type 0
Good i cs log kind x = Valid kind x × Truthful i cs log kind x

-- the entry at a place of a log is that of an event that was logged
entry_at : (xs : List Logging) (p : ℕ) (d : Entry) → p < length (map entry_for xs) → (x : Logging) × Among x xs × (get_or (map entry_for xs) p d ≡ entry_for x)
entry_at [] p d h = absurd (not-suc-le-zero h)
entry_at (x ∷ xs) zero d h = (x, first, refl)
entry_at (x ∷ xs) (suc p) d h = let r = entry_at xs p d (le_of_suc-le-suc h) in (r.0, later r.1, r.2)

among_entries : (xs : List Logging) (log : List Entry) → log ≡ map entry_for xs → (x : Logging) → Among x xs → Among (entry_for x) log
among_entries xs log e x m = rw e (among_map entry_for m)

-- ---- events

module _ (form : ℕ) (i : List ℕ) (cs : List Call) (whole : WellFormed cs) (log : List Entry) (j : LoggedBy cs log) where
  abbrev told_event : List ℕ → Type 0
  told_event o = Tells form Event (Good i cs log Event) o

  -- what is next tells something
  abbrev AllTell : Option (Piece EventRequest) → Type 0
  AllTell o = (p : Piece EventRequest) → o ≡ some p → told_event p.octets

  one_tell : (p : Piece EventRequest) → told_event p.octets → AllTell (some p)
  one_tell p s q e = rw (← some-injective p q e) s

  plain_tell : (x : Element) (status : ℕ) (few : status ≤ 4) → told_event (report_element Event x.token x.ty status [])
  unfolding content_octets
  plain_tell x status few = record { content = status_only x.token x.ty status; octets = refl; good = (few, tt) }

  event_tell : (token place : ℕ) → place < length log → told_event (event_element form token (get_or log place past_log))
  unfolding content_octets
  event_tell token place h =
      let r = entry_at j.list place past_log (omega (arith, ap length j.is)) in
      let m = all_among j.called r.1 in
      let accepts = log-good r.0.event (all_among j.good r.1) in
      record {
        content = logged_event token r.0;
        octets = ap (event_element form token) (ap (λ (l : List Entry). get_or l place past_log) j.is ∙ r.2);
        good = ((whole r.0 m, accepts.0, accepts.1), (m, among_entries j.list log j.is r.0 r.1));
      }

  place-within : (r : EventRequest) (x : Element) (place : ℕ) → next_event_place elapsed_since log r x ≡ some place → place < length log
  place-within r x place e = (next-event.given elapsed_since log r x place e).eligible.logged

  module _ (r : EventRequest) (x : Element) (xs : List Element) (behind : Option (Piece EventRequest)) (later-tells : AllTell behind) where
    report_tell : (o : Option ℕ) → next_event_place elapsed_since log r x ≡ o → AllTell (report_front form log r x xs behind o)
    unfolding report_front
    report_tell (some place) e = one_tell _ (event_tell x.token place (place-within r x place e))
    report_tell none e = either AllTell _ _ _ (λ _. one_tell _ (plain_tell x successful (omega arith))) (λ _. later-tells)

    treat_tell : (t : Treatment) → AllTell (treat_front elapsed_since form log r x xs behind t)
    unfolding treat_front
    treat_tell Report = report_tell (next_event_place elapsed_since log r x) refl
    treat_tell Incapable = one_tell _ (plain_tell x incapable (omega arith))
    treat_tell Cancel = later-tells
    treat_tell Identity = later-tells

  from_tell : (r : EventRequest) (xs : List Element) → AllTell (next_from elapsed_since form log r xs)
  unfolding next_from
  from_tell r [] = λ p e. never cc
  from_tell r (x ∷ xs) = treat_tell r x xs (next_from elapsed_since form log (without r xs) xs) (from_tell (without r xs) xs) (event_treatment x.ty)

  pub events_tell : (r : EventRequest) (p : Piece EventRequest) → next_event elapsed_since form log r ≡ some p → Tells form Event (Good i cs log Event) p.octets
  unfolding next_event
  events_tell r p e = from_tell r r.elements p e

-- ---- diagnostics

module _ (form : ℕ) (i : List ℕ) (cs : List Call) (log : List Entry) (good : good_identity i ≡ true) where
  abbrev told_diagnostic : List ℕ → Type 0
  told_diagnostic o = Tells form Diagnostic (Good i cs log Diagnostic) o

  incapable_tell : (x : DiagnosticElement) → told_diagnostic (report_element Diagnostic x.token x.ty incapable [])
  unfolding content_octets
  incapable_tell x = record { content = status_only x.token x.ty incapable; octets = refl; good = (omega arith, tt) }

  treated_tell : (x : DiagnosticElement) (t : Treatment) → told_diagnostic (diagnostic_report i x t)
  unfolding diagnostic_report content_octets
  treated_tell x Identity =
      let l = good_listed i good in
      record { content = with_subelements x.token x.ty successful l.0; octets = ap (report_element Diagnostic x.token x.ty successful) (sym l.1); good = (omega arith, (refl, l.1)) }
  treated_tell x Incapable = incapable_tell x
  treated_tell x Cancel = incapable_tell x
  treated_tell x Report = incapable_tell x

  pub diagnostics_tell : (xs : List DiagnosticElement) (p : Piece (List DiagnosticElement)) → next_diagnostic i xs ≡ some p → Tells form Diagnostic (Good i cs log Diagnostic) p.octets
  unfolding next_diagnostic
  diagnostics_tell [] p e = never cc
  diagnostics_tell (x ∷ xs) p e = rw (← some-injective _ p e) (treated_tell x (diagnostic_treatment x.ty))
