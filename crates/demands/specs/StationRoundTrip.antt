-- Demand 2 for reports: what a report call writes, the report reader reads back to what was logged and set up. One claim about every list
-- of calls from setup on; its proof is in proofs/StationRoundTrip.antt.
-- Assumes nothing.
use Rattle.std.specs.Prelude.{ℕ, ◌≡◌, true, false, List, [], ◌∷◌, length, take}
use Rattle.std.proofs.Math.Option.{Option, some}
use Rattle.laws.specs.Members.{Among, All}
use Rattle.units.specs.Time.{elapsed_since}
use Rattle.octets.specs.declared.numbers.Kind.{Kind}
use Rattle.octets.specs.declared.numbers.Kind.TheVariants.{Event, Diagnostic}
use Rattle.octets.specs.Numbers.{successful}
use Rattle.octets.specs.Addresses.{is_group}
use Rattle.octets.specs.Elements.{subelements}
use Rattle.events.specs.declared.Entry.{Entry}
use Rattle.events.specs.Times.{is_form}
use Rattle.events.specs.Loggings.{Logging, entry_for, EventLengths}
use Rattle.model.specs.declared.Diagnostic.{Diagnostic as DiagnosticElement}
use Rattle.model.specs.Clocks.{elapsed_clock}
use Rattle.model.specs.Model.{Capacities, Address, Listed, EventRequest, DiagnosticRequest, Requester, Station, Call, report, of_length}
use Rattle.model.specs.Requesters.{find, form_of}
use Rattle.model.specs.Fill.{Piece}
use Rattle.model.specs.Events.{next_event}
use Rattle.model.specs.Diagnostics.{next_diagnostic}
use Rattle.model.specs.Stations.{octets_of, setup, tick, step}
use Rattle.model.specs.Runs.{run}
use Rattle.model.specs.Sound.{logging_call}
use Rattle.report_reader.specs.Contents.{Content, status_only, logged_event, kept_unread, with_subelements, Valid, content_octets, content_frame, ReadAs}
use Rattle.report_reader.specs.Reader.{read_elements}
use Rattle.report_reader.specs.Forms.{Differ, NoEvent}

-- ---- what a request chooses

-- in a form, a request r gives these elements, one after the other, and r' is left of it: each is the model's next one
pub data Gives {R : Type 0} (form : ℕ) (kind : Kind) (next : R → Option (Piece R)) : R → List (Content kind) → R → Type 0 where
  over : {r : R} → Gives form kind next r [] r
  gives : {r r' r'' : R} {x : Content kind} {xs : List (Content kind)} → next r ≡ some (record { octets = content_octets form kind x; rest = r' })
      → Gives form kind next r' xs r'' → Gives form kind next r (x ∷ xs) r''

-- in the form that it follows, a requester's outstanding request of a kind has a dialog token and gives these elements
pub data Chosen (g : Station) (r : Requester) : (kind : Kind) → ℕ → List (Content kind) → Type 0 where
  events : {q q' : EventRequest} {xs : List (Content Event)} → r.events ≡ some q → Gives r.form Event (next_event elapsed_since r.form g.log) q xs q' → Chosen g r Event q.dialog xs
  diagnostics : {q : DiagnosticRequest} {left : List DiagnosticElement} {xs : List (Content Diagnostic)} → r.diagnostics ≡ some q
      → Gives r.form Diagnostic (next_diagnostic (octets_of g.identity)) q.elements xs left → Chosen g r Diagnostic q.dialog xs

-- an event that is told was logged by one of the calls, and is in the log; subelements are the identity, Successful; nothing else
-- has octets behind its status
abbrev pub Truthful : List ℕ → List Call → List Entry → (kind : Kind) → Content kind → Type 0
Truthful i cs log kind (status_only token ty status) = Unit {0}
Truthful i cs log kind (logged_event token x) = Among (logging_call x) cs × Among (entry_for x) log
Truthful i cs log kind (kept_unread token ty o) = ⊥
Truthful i cs log kind (with_subelements token ty status ps) = (status ≡ successful) × (subelements ps ≡ i)

-- ---- the round trip

-- n octets of a buffer, written for the requester at an address of the station g: what its request chose is so, and is read of them in the
-- form that it follows, whatever the individual destination
pub record RoundTrip (i : List ℕ) (cs : List Call) (g : Station) (a : Address) (kind : Kind) (n : ℕ) (buffer : List ℕ) : Type 0 where
  pub requester : Requester
  pub dialog : ℕ
  pub contents : List (Content kind)
  pub found : find a g.requesters ≡ some requester
  pub chosen : Chosen g requester kind dialog contents
  pub truthful : All (Truthful i cs g.log kind) contents
  pub valid : All (Valid kind) contents
  pub follows : is_form requester.form ≡ true
  pub whole : length (take n buffer) ≡ n
  pub wrote : take n buffer ≡ content_frame requester.form kind dialog contents
  pub read : (d : Address) → is_group d ≡ false → ReadAs requester.form d (take n buffer) kind dialog contents

-- each logged event has fields of their lengths, as in the code, where they are arrays
abbrev pub WellFormed : List Call → Type 0
WellFormed cs = (x : Logging) → Among (logging_call x) cs → EventLengths x.event

-- for all capacities, every identity and list that setup was given, every list of calls, and every report call behind it that is answered with a length
abbrev pub StationRoundTrip : Type 0
StationRoundTrip =
    (most : Capacities) (i : List ℕ) (l : List Listed) (cs : List Call) → WellFormed cs → (t : ℕ) (a : Address) (kind : Kind) (b : List ℕ) (n : ℕ)
    → let g = run elapsed_clock most (setup most i l).station cs in
    (step elapsed_clock most g (report t a kind b)).answer ≡ of_length n
    → RoundTrip i cs (tick elapsed_clock t g) a kind n (step elapsed_clock most g (report t a kind b)).buffer

-- ---- document 02 (g)

-- "A reader told one form and given the other must never show a wrong time": of n octets of a buffer, written for the requester at an address
-- of the station g, it shows no event
abbrev pub NeverShown : Station → Address → ℕ → List ℕ → Type 0
NeverShown g a n buffer = (told : ℕ) → Differ (form_of a g.requesters) told → All NoEvent (read_elements told (take n buffer) Event).elements

abbrev pub StationNeverShown : Type 0
StationNeverShown =
    (most : Capacities) (i : List ℕ) (l : List Listed) (cs : List Call) → WellFormed cs → (t : ℕ) (a : Address) (b : List ℕ) (n : ℕ)
    → let g = run elapsed_clock most (setup most i l).station cs in
    (step elapsed_clock most g (report t a Event b)).answer ≡ of_length n
    → NeverShown (tick elapsed_clock t g) a n (step elapsed_clock most g (report t a Event b)).buffer
