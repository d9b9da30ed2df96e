-- Document 02 (d), "With nothing logged after acceptance, a limit of 3 now gives the latest three that match, or all if fewer": what an
-- event request gives in all, said of a station's own report calls. Its proof is in proofs/NewestFirst.antt.
-- Assumes nothing.
use Rattle.std.specs.Prelude.{ℕ, min, ◌≡◌, false, length, get_or, take, drop, List, [], ◌∷◌, ◌++◌, map}
use Rattle.std.specs.List.{concat}
use Rattle.std.proofs.Math.Option.{Option, none, some}
use Rattle.laws.specs.Choice.{when◌then◌else◌}
use Rattle.laws.specs.Members.{All}
use Rattle.octets.specs.declared.numbers.Kind.{Kind}
use Rattle.octets.specs.declared.numbers.Kind.TheVariants.{Event, Diagnostic}
use Rattle.octets.specs.Numbers.{successful, incapable}
use Rattle.octets.specs.Addresses.{same}
use Rattle.requests.specs.declared.Element.{Element}
use Rattle.requests.specs.Requests.{read_request}
use Rattle.events.specs.declared.Entry.{Entry}
use Rattle.events.specs.Log.{past_log}
use Rattle.events.specs.Choice.{all_of}
use Rattle.events.specs.Conditions.{meets}
use Rattle.reports.specs.Reports.{event_element}
use Rattle.model.specs.declared.Treatment.{Treatment}
use Rattle.model.specs.declared.Treatment.TheVariants.{Report, Incapable, Cancel, Identity}
use Rattle.model.specs.Clocks.{Clock}
use Rattle.model.specs.Model.{Capacities, Address, Station, Call, clock, logging, frame, report, roam, change, Answer, accepted, nothing, of_length, turned_away}
use Rattle.model.specs.Requesters.{form_of}
use Rattle.model.specs.Outstanding.{outstanding_dialog}
use Rattle.model.specs.Events.{event_treatment, bare}
use Rattle.model.specs.Stations.{step}
use Rattle.model.specs.Runs.{run, Reply, reply}

-- ---- what a request has to give

-- of the first n places of a log "the latest .. that match" an element, newest first: so many as its limit, "or all if fewer"
unfoldable pub latest_matches : (ℕ → ℕ → ℕ) → List Entry → ℕ → Element → List ℕ
latest_matches since log n x = take x.limit (all_of (meets since log x.ty x.filter) (min n (length log)))

-- "An element that gave none gives one Successful report of length 3"
unfoldable pub or_bare : Element → List (List ℕ) → List (List ℕ)
or_bare x [] = bare x successful ∷ []
or_bare x (o ∷ os) = o ∷ os

-- the report elements of one element in a form, by what its type decides
unfoldable pub treated_reports : (ℕ → ℕ → ℕ) → ℕ → List Entry → ℕ → Element → Treatment → List (List ℕ)
treated_reports since form log n x Report = or_bare x (map (λ p. event_element form x.token (get_or log p past_log)) (latest_matches since log n x))
treated_reports since form log n x Incapable = bare x incapable ∷ []
treated_reports since form log n x Cancel = []
treated_reports since form log n x Identity = []

-- "Elements go in request order"; n events were logged before acceptance
unfoldable pub request_reports : (ℕ → ℕ → ℕ) → ℕ → List Entry → ℕ → List Element → List (List ℕ)
request_reports since form log n [] = []
request_reports since form log n (x ∷ xs) = treated_reports since form log n x (event_treatment x.ty) ++ request_reports since form log n xs

-- ---- what report calls gave

-- what stands behind the header of a frame
unfoldable pub behind_header : Answer → List ℕ → List ℕ
behind_header accepted buffer = []
behind_header nothing buffer = []
behind_header (of_length n) buffer = drop 3 (take n buffer)
behind_header (turned_away r) buffer = []

unfoldable pub events_in : Kind → Reply → List ℕ
events_in Event r = behind_header r.answer r.buffer
events_in Diagnostic r = []

-- of a report call of s for events
unfoldable pub events_of : Address → Call → Reply → List ℕ
events_of s (clock t) r = []
events_of s (logging t e) r = []
events_of s (frame t d a o) r = []
events_of s (report t a kind b) r = when same a s then events_in kind r else []
events_of s (roam t l) r = []
events_of s (change t l) r = []

-- of all of them in a list of calls, one frame behind the other
unfoldable pub events_given : Clock → Capacities → Address → Station → List Call → List ℕ
events_given k most s g [] = []
events_given k most s g (c ∷ cs) = events_of s c (reply k most g c) ++ events_given k most s (step k most g c).station cs

-- ---- the claim

-- a frame that opens an event request: it is accepted, asks for events, and no such request of its source with its token is outstanding
pub record OpensEvents (k : Clock) (most : Capacities) (g : Station) (t : ℕ) (d s : Address) (o : List ℕ) : Type 0 where
  pub taken : (step k most g (frame t d s o)).answer ≡ accepted
  pub asks : (read_request most.elements o).kind ≡ Event
  pub new : outstanding_dialog Event s g ≡ some (read_request most.elements o).dialog → ⊥

-- calls that log nothing and let the request of s be: report calls of all requesters, whatever their readings and buffers, clock readings,
-- and frames of others
unfoldable pub LetsBe : Address → Call → Type 0
LetsBe s (clock t) = Unit {0}
LetsBe s (logging t e) = ⊥
LetsBe s (frame t d a o) = same a s ≡ false
LetsBe s (report t a kind b) = Unit {0}
LetsBe s (roam t l) = ⊥
LetsBe s (change t l) = ⊥

-- of all that a request has to give, so much was given, in order; and everything, once it is over
pub record GivenInOrder (all : List (List ℕ)) (given : List ℕ) (left : Option ℕ) : Type 0 where
  pub count : ℕ
  pub in_order : given ≡ concat (take count all)
  pub over : left ≡ none → given ≡ concat all

abbrev pub NewestFirst : Type 0
NewestFirst =
    (k : Clock) (most : Capacities) (g : Station) (t : ℕ) (d s : Address) (o : List ℕ) (later : List Call) → OpensEvents k most g t d s o → All (LetsBe s) later
    → let q = read_request most.elements o in
    let h = (step k most g (frame t d s o)).station in
    GivenInOrder (request_reports k.since (form_of s g.requesters) g.log (length g.log) (take q.count q.elements)) (events_given k most s h later) (outstanding_dialog Event s (run k most h later))
