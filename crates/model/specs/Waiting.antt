-- Document 02 (e), "How long a console can wait": how many frames a request gives until it is over. Claims about every station that setup
-- and calls lead to, and every list of calls from there on; their proofs are in proofs/Waiting.antt.
-- Assumes nothing.
use Rattle.std.specs.Prelude.{ℕ, ◌+◌, ◌*◌, ◌≤◌, ◌<◌, ◌≡◌, ◌⊎◌, Bool, true, false, not, ◌&&◌, ◌||◌, List, [], ◌∷◌, ◌++◌, eqb}
use Rattle.std.proofs.Math.Option.{none, some}
use Rattle.laws.specs.Choice.{when◌then◌else◌}
use Rattle.laws.specs.Members.{All}
use Rattle.octets.specs.declared.numbers.Kind.{Kind}
use Rattle.octets.specs.declared.numbers.Kind.TheVariants.{Event, Diagnostic}
use Rattle.octets.specs.Addresses.{same}
use Rattle.requests.specs.Requests.{read_request, Request}
use Rattle.model.specs.Clocks.{Clock}
use Rattle.model.specs.Model.{Capacities, standard, Address, Listed, Station, Call, clock, logging, frame, report, roam, change, Answer, accepted, nothing, of_length, turned_away}
use Rattle.model.specs.Outstanding.{outstanding_dialog}
use Rattle.model.specs.Diagnostics.{holds_cancel, diagnostics_of}
use Rattle.model.specs.Stations.{setup, tick, reading_of, step}
use Rattle.model.specs.Runs.{run, HandedIn, EachCall}
use Rattle.model.specs.Independence.{is_accepted}

-- ---- the request that is waited for

-- "once an event request is accepted": a frame of s leaves one with the dialog token n outstanding, where its late drop left none with that
-- token. A frame with the token of an outstanding request opens none
pub record Opens (k : Clock) (most : Capacities) (kind : Kind) (s : Address) (n : ℕ) (g : Station) (t : ℕ) (d : Address) (o : List ℕ) : Type 0 where
  pub was-not : outstanding_dialog kind s (tick k t g) ≡ some n → ⊥
  pub is-now : outstanding_dialog kind s (step k most g (frame t d s o)).station ≡ some n

-- "provided it is neither replaced nor ended": a call leaves its dialog token outstanding, at the late drop and at the end
abbrev pub Stays : Clock → Capacities → Kind → Address → ℕ → Station → Call → Type 0
Stays k most kind s n g c =
    (outstanding_dialog kind s (tick k (reading_of c) g) ≡ some n) × (outstanding_dialog kind s (step k most g c).station ≡ some n)

-- ---- the frames that it gives

abbrev pub same_kind : Kind → Kind → Bool
same_kind Event Event = true
same_kind Event Diagnostic = false
same_kind Diagnostic Event = false
same_kind Diagnostic Diagnostic = true

-- an answer that gives a frame is a length; that of a header_only frame is one
unfoldable pub frames_in : Answer → ℕ
frames_in accepted = 0
frames_in nothing = 0
frames_in (of_length n) = 1
frames_in (turned_away r) = 0

-- 1 for one of the "report calls by its own console for that kind that give a frame"
unfoldable pub frames_for : Kind → Address → Call → Answer → ℕ
frames_for kind s (clock t) x = 0
frames_for kind s (logging t e) x = 0
frames_for kind s (frame t d a o) x = 0
frames_for kind s (report t a asked b) x = when same a s && same_kind asked kind then frames_in x else 0
frames_for kind s (roam t l) x = 0
frames_for kind s (change t l) x = 0

-- how many there are of them in a list of calls
unfoldable pub frames_given : Clock → Capacities → Kind → Address → Station → List Call → ℕ
frames_given k most kind s g [] = 0
frames_given k most kind s g (c ∷ cs) = frames_for kind s c (step k most g c).answer + frames_given k most kind s (step k most g c).station cs

-- ---- in the request's own words

unfoldable pub cancels : Kind → Request → Bool
cancels Event q = false
cancels Diagnostic q = holds_cancel (diagnostics_of q)

-- does a call, answered so, replace the request of s with the dialog token n, or end it? An accepted frame of its own console and kind does,
-- with another token or a Cancel; so does "a move or network change", if accepted
unfoldable pub ends_request : Capacities → Kind → Address → ℕ → Call → Answer → Bool
ends_request most kind s n (clock t) x = false
ends_request most kind s n (logging t e) x = false
ends_request most kind s n (frame t d a o) x =
    let q = read_request most.elements o in
    is_accepted x && (same a s && (same_kind q.kind kind && (cancels kind q || not (eqb q.dialog n))))
ends_request most kind s n (report t a asked b) x = false
ends_request most kind s n (roam t l) x = is_accepted x
ends_request most kind s n (change t l) x = is_accepted x

-- "neither replaced nor ended by a move or network change"
abbrev pub Spares : Clock → Capacities → Kind → Address → ℕ → Station → Call → Type 0
Spares k most kind s n g c = ends_request most kind s n c (step k most g c).answer ≡ false

-- it is over: a call's late drop, or the call, leaves none
pub data IsOver (k : Clock) (most : Capacities) (kind : Kind) (s : Address) (g : Station) (c : Call) : Type 0 where
  late : outstanding_dialog kind s (tick k (reading_of c) g) ≡ none → IsOver k most kind s g c
  done : outstanding_dialog kind s (step k most g c).station ≡ none → IsOver k most kind s g c

-- of every station: an accepted frame whose token is not outstanding, and which is no Cancel, opens a request; where a call leaves the token
-- outstanding, the request is spared; and where the request is spared, its token stays outstanding or it is over
pub record AsWorded : Type 0 where
  pub opens : (k : Clock) (most : Capacities) (s : Address) (g : Station) (t : ℕ) (d : Address) (o : List ℕ) → let q = read_request most.elements o in
      (step k most g (frame t d s o)).answer ≡ accepted → cancels q.kind q ≡ false → (outstanding_dialog q.kind s (tick k t g) ≡ some q.dialog → ⊥)
      → Opens k most q.kind s q.dialog g t d o
  pub spared : (k : Clock) (most : Capacities) (kind : Kind) (s : Address) (n : ℕ) (g : Station) (c : Call) → Stays k most kind s n g c → Spares k most kind s n g c
  pub stays : (k : Clock) (most : Capacities) (kind : Kind) (s : Address) (n : ℕ) (g : Station) (c : Call) → outstanding_dialog kind s g ≡ some n
      → Spares k most kind s n g c → Stays k most kind s n g c ⊎ IsOver k most kind s g c

-- ---- when it is over

-- a call of a list, up to which its token stays outstanding
pub record UpToCall (k : Clock) (most : Capacities) (kind : Kind) (s : Address) (n : ℕ) (g : Station) (cs : List Call) : Type 0 where
  pub earlier : List Call
  pub call : Call
  pub later : List Call
  pub split : cs ≡ earlier ++ (call ∷ later)
  pub stayed : EachCall (Stays k most kind s n) k most g earlier

-- what becomes of it in a list of calls: its token stays outstanding, and fewer frames than the bound were given; or it is over at a call, at
-- whose end at most so many were given; or a call replaces or ends it
pub data Becomes (k : Clock) (most : Capacities) (kind : Kind) (s : Address) (n bound : ℕ) (g : Station) (cs : List Call) : Type 0 where
  still : EachCall (Stays k most kind s n) k most g cs → frames_given k most kind s g cs < bound → Becomes k most kind s n bound g cs
  over-at : (x : UpToCall k most kind s n g cs) → IsOver k most kind s (run k most g x.earlier) x.call
      → frames_given k most kind s g (x.earlier ++ (x.call ∷ [])) ≤ bound → Becomes k most kind s n bound g cs
  ended_at : (x : UpToCall k most kind s n g cs) → outstanding_dialog kind s (tick k (reading_of x.call) (run k most g x.earlier)) ≡ some n
      → ends_request most kind s n x.call (step k most (run k most g x.earlier) x.call).answer ≡ true → Becomes k most kind s n bound g cs

-- what is said of a request of s with the dialog token n that a frame opened, of the station after that frame, and of the later calls; on every
-- station that setup and calls lead to
abbrev pub OnceOpened : Clock → Capacities → Kind → (Address → ℕ → Station → List Call → Type 0) → Type 0
OnceOpened k most kind P =
    (i : List ℕ) (l : List Listed) (earlier later : List Call) → All HandedIn earlier → All HandedIn later
    → let g = run k most (setup most i l).station earlier in
    (t n : ℕ) (d s : Address) (o : List ℕ) → Opens k most kind s n g t d o → P s n (step k most g (frame t d s o)).station later

-- "it is over after at most .. report calls by its own console for that kind that give a frame .., however much is logged or dropped and
-- whatever the other consoles do"
pub record OverWithin (k : Clock) (most : Capacities) (kind : Kind) (bound : ℕ) : Type 0 where
  pub becomes : OnceOpened k most kind (λ s n g later. Becomes k most kind s n bound g later)
  pub while-it-stays : OnceOpened k most kind (λ s n g later. EachCall (Stays k most kind s n) k most g later → frames_given k most kind s g later < bound)

-- "(eight elements of up to 64 events)", of a station that holds an event and an element; "Diagnostics: at most eight."
pub record RequestsEnd : Type 0 where
  pub events : (k : Clock) (most : Capacities) → 1 ≤ most.events → 1 ≤ most.elements → OverWithin k most Event (most.elements * most.events)
  pub diagnostics : (k : Clock) (most : Capacities) → OverWithin k most Diagnostic most.elements

-- document 01's gate: "at most 512"
pub record RequestsEndStandard : Type 0 where
  pub events : (k : Clock) → OverWithin k standard Event 512
  pub diagnostics : (k : Clock) → OverWithin k standard Diagnostic 8
