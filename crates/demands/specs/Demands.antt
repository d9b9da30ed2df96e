-- The three demands and document 02 (c), (d), (e), (g) and (j), said of the code: for every chain of stations and answers in which each is what its method's contract allows of the
-- one before, the first from setup. Their proofs are in proofs/Demands.antt.
-- Assumes nothing.
use Rattle.std.specs.Prelude.{ℕ, ◌+◌, ◌-◌, ◌%◌, ◌<◌, min, ◌≡◌, false, length, take, List, [], ◌∷◌, map, flat_map}
use Rattle.std.proofs.Math.Option.{Option}
use Rattle.laws.specs.Members.{All}
use Rattle.units.specs.Time.{turn, elapsed_top, elapsed_since}
use Rattle.octets.specs.declared.numbers.Kind.{Kind}
use Rattle.octets.specs.declared.numbers.Kind.TheVariants.{Event, Diagnostic}
use Rattle.octets.specs.Refusals.{Refusal}
use Rattle.octets.specs.Addresses.{same}
use Rattle.requests.specs.Requests.{read_request}
use Rattle.model.specs.Clocks.{counter_clock, elapsed_clock}
use Rattle.model.specs.Model.{standard, Address, Listed, Call, clock, frame, report, roam, change, accepted, of_length, turned_away}
use Rattle.model.specs.Requesters.{form_of}
use Rattle.model.specs.Outstanding.{outstanding_dialog}
use Rattle.model.specs.Stations.{setup, tick, reading_of, nobody}
use Rattle.model.specs.Refusals.{lent_buffer, causes_of, setup_causes, RefusedBy}
use Rattle.model.specs.Runs.{Always, EachCall, sender, Reply, to_sender}
use Rattle.model.specs.Independence.{from, fresh_answers}
use Rattle.model.specs.Agreement.{replies, Young}
use Rattle.model.specs.NewestFirst.{request_reports, events_of, OpensEvents, LetsBe, GivenInOrder}
use Rattle.model.specs.Premise.{LessThanTurnApart, latest}
use Rattle.model.specs.Waiting.{Opens, Stays, frames_for, Becomes}
use Rattle.requesters.specs.Views.{view_answer}
use Rattle.station.specs.declared.Station.{Station}
use Rattle.station.specs.declared.Outcome.{Outcome}
use Rattle.station.specs.Views.{view}
use Rattle.demands.specs.StationRoundTrip.{RoundTrip, NeverShown}
use Rattle.demands.specs.Chains.{Made, Allowed, Chain, SetUp}

-- ---- demand 1

-- a call m was refused on the station g: by one of its causes; "leaves a gate as a bare clock reading would", whatever that one returned;
-- and "writes no octet of a lent buffer"
pub record CodeLeftAlone (g : Station) (m : Made) (r : Refusal) : Type 0 where
  pub refusal : RefusedBy (causes_of m.call) r
  pub station : (k : Made) → k.call ≡ clock (reading_of m.call) → Allowed g k → view m.outcome.station ≡ view k.outcome.station
  pub buffer : m.buffer ≡ lent_buffer m.call

abbrev pub Total : Type 0
Total = (g : Station) (m : Made) (r : Refusal) → Allowed g m → view_answer m.outcome.answer ≡ turned_away r → CodeLeftAlone g m r

pub record CodeLeftUnnamed (o : Outcome) (r : Refusal) : Type 0 where
  pub refusal : RefusedBy setup_causes r
  pub station : view o.station ≡ nobody

abbrev pub TotalSetup : Type 0
TotalSetup = (i : List ℕ) (l : List Listed) (o : Outcome) (r : Refusal) → SetUp i l o → view_answer o.answer ≡ turned_away r → CodeLeftUnnamed o r

-- ---- demand 2, reports

abbrev pub call_of : Made → Call
call_of m = m.call

-- a report call m behind a chain, answered with a length n
abbrev pub Exact : Type 0
Exact =
    (i : List ℕ) (l : List Listed) (o : Outcome) (ms : List Made) (g : Station) → SetUp i l o → Chain o.station ms g
    → (m : Made) (t : ℕ) (a : Address) (kind : Kind) (b : List ℕ) (n : ℕ) → Allowed g m → m.call ≡ report t a kind b → view_answer m.outcome.answer ≡ of_length n
    → RoundTrip i (map call_of ms) (tick elapsed_clock t (view g)) a kind n m.buffer

-- document 02 (g): such a call for events, whose frame goes to a reader that is told the other form
abbrev pub NeverShowsWrongTime : Type 0
NeverShowsWrongTime =
    (i : List ℕ) (l : List Listed) (o : Outcome) (ms : List Made) (g : Station) → SetUp i l o → Chain o.station ms g
    → (m : Made) (t : ℕ) (a : Address) (b : List ℕ) (n : ℕ) → Allowed g m → m.call ≡ report t a Event b → view_answer m.outcome.answer ≡ of_length n
    → NeverShown (tick elapsed_clock t (view g)) a n m.buffer

-- ---- demand 3

-- the answer to a call, and every octet of its lent buffer
abbrev pub answered : Made → Reply
answered m = record { answer = view_answer m.outcome.answer; buffer = m.buffer }

-- to the call's sender; none where it has no sender
abbrev pub replied : Made → Option Reply
replied m = to_sender (sender m.call) (λ s. answered m)

-- "It holds while elapsed time is short of its top": after a call
abbrev pub ShortOfTop : Made → Type 0
ShortOfTop m = (view m.outcome.station).timer.now < elapsed_top

abbrev pub IndependentRequesters : Type 0
IndependentRequesters =
    (i : List ℕ) (l : List Listed) (o : Outcome) (ms : List Made) (g : Station) → SetUp i l o → Chain o.station ms g → All ShortOfTop ms
    → map replied ms ≡ fresh_answers standard i (from l) (setup standard i l).station (map call_of ms)

-- so it is in every chain of fewer calls than a turn has milliseconds
abbrev pub IndependentShortChain : Type 0
IndependentShortChain =
    (i : List ℕ) (l : List Listed) (o : Outcome) (ms : List Made) (g : Station) → SetUp i l o → Chain o.station ms g → length ms < turn
    → map replied ms ≡ fresh_answers standard i (from l) (setup standard i l).station (map call_of ms)

-- ---- document 02 (c)

-- "old and new answers agree as long as no age taken has reached a turn"
abbrev pub AnswersAsBefore : Type 0
AnswersAsBefore =
    (i : List ℕ) (l : List Listed) (o : Outcome) (ms : List Made) (g : Station) → SetUp i l o → Chain o.station ms g
    → Always Young elapsed_clock standard (setup standard i l).station (map call_of ms)
    → map answered ms ≡ replies counter_clock standard (setup standard i l).station (map call_of ms)

-- "Premise: successive calls lie less than one turn apart": the station's time is then the true time since the first call
abbrev pub TimeIsTrue : Type 0
TimeIsTrue =
    (i : List ℕ) (l : List Listed) (o : Outcome) (ms : List Made) (g : Station) → SetUp i l o → Chain o.station ms g
    → (t : ℕ) (ts : List ℕ) → LessThanTurnApart t ts → map reading_of (map call_of ms) ≡ map (λ u. u % turn) (t ∷ ts)
    → (view g).timer.now ≡ min elapsed_top (latest t ts - t)

-- ---- document 02 (d)

-- what the report calls of s for events gave, one frame behind the other
abbrev pub given_to : Address → List Made → List ℕ
given_to s ms = flat_map (λ m. events_of s m.call (answered m)) ms

-- "a limit of 3 now gives the latest three that match, or all if fewer": behind a frame call m that opens an event request
abbrev pub GivesNewestFirst : Type 0
GivesNewestFirst =
    (g : Station) (m : Made) (ms : List Made) (h : Station) → Allowed g m → Chain m.outcome.station ms h
    → (t : ℕ) (d s : Address) (o : List ℕ) → m.call ≡ frame t d s o → OpensEvents elapsed_clock standard (view g) t d s o → All (LetsBe s) (map call_of ms)
    → let q = read_request standard.elements o in
    let log = (view g).log in
    GivenInOrder (request_reports elapsed_since (form_of s (view g).requesters) log (length log) (take q.count q.elements)) (given_to s ms) (outstanding_dialog Event s (view h))

-- ---- document 02 (e)

-- how many "report calls by its own console for that kind that give a frame" a list of calls has
unfoldable pub frames_made : Kind → Address → List Made → ℕ
frames_made kind s [] = 0
frames_made kind s (m ∷ ms) = frames_for kind s m.call (answered m).answer + frames_made kind s ms

-- what is said of a request of s with the dialog token n that a frame call m opened, of the station that m returned, and of the later calls
abbrev pub OnceMade : Kind → (Address → ℕ → Station → List Made → Type 0) → Type 0
OnceMade kind P =
    (i : List ℕ) (l : List Listed) (o : Outcome) (ms : List Made) (g : Station) → SetUp i l o → Chain o.station ms g
    → (m : Made) (later : List Made) (h : Station) → Allowed g m → Chain m.outcome.station later h
    → (t n : ℕ) (d s : Address) (b : List ℕ) → m.call ≡ frame t d s b → Opens elapsed_clock standard kind s n (view g) t d b
    → P s n m.outcome.station later

pub record CodeOverWithin (kind : Kind) (bound : ℕ) : Type 0 where
  pub becomes : OnceMade kind (λ s n g later. Becomes elapsed_clock standard kind s n bound (view g) (map call_of later))
  pub while-it-stays : OnceMade kind (λ s n g later. EachCall (Stays elapsed_clock standard kind s n) elapsed_clock standard (view g) (map call_of later)
      → frames_made kind s later < bound)

-- "it is over after at most 512 report calls"; "Diagnostics: at most eight."
pub record RequestsAreOver : Type 0 where
  pub events : CodeOverWithin Event 512
  pub diagnostics : CodeOverWithin Diagnostic 8

-- ---- document 02 (j)

-- two calls, of which the second is made on the station that the first returned
pub record MadeInOrder (g : Station) (x y : Made) : Type 0 where
  pub first : Allowed g x
  pub second : Allowed x.outcome.station y

-- "the same gate .., with the same answers", whatever the calls returned: x, then y, and y', then x'
pub record SameEitherWay (x y y' x' : Made) : Type 0 where
  pub station : view y.outcome.station ≡ view x'.outcome.station
  pub one : answered x ≡ answered x'
  pub other : answered y ≡ answered y'

-- "two request frames from different consoles, taken at the same reading"; "two equal network changes at one reading equal one"; "a move,
-- then an accepted network change at the same reading, equal that change alone"
pub record OrderLeavesNoTrace : Type 0 where
  pub frames : (g : Station) (x y y' x' : Made) → MadeInOrder g x y → MadeInOrder g y' x' → (t : ℕ) (d e a b : Address) (o p : List ℕ) → same a b ≡ false
      → x.call ≡ frame t d a o → x'.call ≡ frame t d a o → y.call ≡ frame t e b p → y'.call ≡ frame t e b p → SameEitherWay x y y' x'
  pub changes : (g : Station) (x y : Made) → MadeInOrder g x y → (t : ℕ) (l : List Listed) → x.call ≡ change t l → y.call ≡ change t l
      → (view y.outcome.station ≡ view x.outcome.station) × (answered y ≡ answered x)
  pub move : (g : Station) (x y alone : Made) → MadeInOrder g x y → Allowed g alone → (t : ℕ) (l m : List Listed) → x.call ≡ roam t l → y.call ≡ change t m
      → alone.call ≡ change t m → (answered y ≡ answered alone)
      × (view_answer alone.outcome.answer ≡ accepted → view y.outcome.station ≡ view alone.outcome.station)
