-- Demand 3, document 01's "Console independence": each answer to a requester is what a newly set up station would give it, which no other
-- requester ever spoke to. Claims about the gate of document 02 (c), for a list of calls as a whole; their proofs are in
-- proofs/Independence.antt.
-- Assumes nothing.
use Rattle.std.specs.Prelude.{ℕ, ◌<◌, ◌≡◌, Bool, true, false, List, [], ◌∷◌, ◌++◌, map, length}
use Rattle.std.proofs.Math.Option.{Option, none, some}
use Rattle.laws.specs.Choice.{when◌then◌else◌}
use Rattle.units.specs.Time.{turn, elapsed_top}
use Rattle.octets.specs.Addresses.{same}
use Rattle.model.specs.Clocks.{Clock, elapsed_clock}
use Rattle.model.specs.Model.{Capacities, Address, Listed, Station, Call, clock, logging, frame, report, roam, change, Answer, accepted, nothing, of_length, turned_away}
use Rattle.model.specs.Stations.{setup, reading_of, step}
use Rattle.model.specs.Runs.{run, Always, sender, Reply, reply, to_sender}

-- "each frame or report call of another sender replaced by a bare clock reading at the same counter value"; "calls not replaced keep
-- their arguments, refused ones too"
unfoldable pub quiet_for : Address → Call → Option Address → Call
quiet_for s c none = c
quiet_for s c (some a) = when same a s then c else clock (reading_of c)

abbrev pub quiet : Address → Call → Call
quiet s c = quiet_for s c (sender c)

-- "the console list of the last accepted network change (or setup)", and "the later calls only"
pub record Origin : Type 0 where
  pub list : List Listed
  pub later : List Call

abbrev pub from : List Listed → Origin
from l = record { list = l; later = [] }

abbrev pub longer : Origin → Call → Origin
longer o c = record { list = o.list; later = o.later ++ (c ∷ []) }

unfoldable pub is_accepted : Answer → Bool
is_accepted accepted = true
is_accepted nothing = false
is_accepted (of_length n) = false
is_accepted (turned_away r) = false

-- the origin after one more call, which was answered so
unfoldable pub origin_after : Origin → Call → Answer → Origin
origin_after o (change t l) a = when is_accepted a then from l else longer o (change t l)
origin_after o (clock t) a = longer o (clock t)
origin_after o (logging t e) a = longer o (logging t e)
origin_after o (frame t d s b) a = longer o (frame t d s b)
origin_after o (report t s k b) a = longer o (report t s k b)
origin_after o (roam t l) a = longer o (roam t l)

-- what a newly set up station answers to the call c of a sender s: it has the identity i and the origin's list, and is run through the
-- later calls
unfoldable pub fresh_reply : Capacities → List ℕ → Origin → Call → Address → Reply
fresh_reply most i o c s = reply elapsed_clock most (run elapsed_clock most (setup most i o.list).station (map (quiet s) o.later)) c

-- the answers to requesters in a list of calls on the station g, in order; none at a call without a sender
unfoldable pub answers : Capacities → Station → List Call → List (Option Reply)
answers most g [] = []
answers most g (c ∷ cs) = to_sender (sender c) (λ s. reply elapsed_clock most g c) ∷ answers most (step elapsed_clock most g c).station cs

-- the same list with each answer taken from a newly set up station; of the station g that the list runs on it only takes which network
-- changes were accepted
unfoldable pub fresh_answers : Capacities → List ℕ → Origin → Station → List Call → List (Option Reply)
fresh_answers most i o g [] = []
fresh_answers most i o g (c ∷ cs) =
    to_sender (sender c) (fresh_reply most i o c)
    ∷ fresh_answers most i (origin_after o c (step elapsed_clock most g c).answer) (step elapsed_clock most g c).station cs

-- document 02 (c): "It holds while elapsed time is short of its top"
abbrev pub BelowTop : Station → Call → Type 0
BelowTop g c = g.timer.now < elapsed_top

-- Demand 3: for every identity and list that setup was given, "accepted or refused", and every list of calls
abbrev pub Independent : Type 0
Independent =
    (most : Capacities) (i : List ℕ) (l : List Listed) (cs : List Call) → Always BelowTop elapsed_clock most (setup most i l).station cs
    → answers most (setup most i l).station cs ≡ fresh_answers most i (from l) (setup most i l).station cs

-- Fewer calls than a turn has milliseconds never come to the top.
abbrev pub IndependentShortRun : Type 0
IndependentShortRun =
    (most : Capacities) (i : List ℕ) (l : List Listed) (cs : List Call) → length cs < turn
    → answers most (setup most i l).station cs ≡ fresh_answers most i (from l) (setup most i l).station cs

-- The same as the first said of one call and those before it.
unfoldable pub origin : Capacities → Origin → Station → List Call → Origin
origin most o g [] = o
origin most o g (c ∷ cs) = origin most (origin_after o c (step elapsed_clock most g c).answer) (step elapsed_clock most g c).station cs

abbrev pub IndependentCall : Type 0
IndependentCall =
    (most : Capacities) (i : List ℕ) (l : List Listed) (earlier : List Call) (c : Call) (s : Address) → sender c ≡ some s
    → Always BelowTop elapsed_clock most (setup most i l).station (earlier ++ (c ∷ []))
    → reply elapsed_clock most (run elapsed_clock most (setup most i l).station earlier) c
    ≡ fresh_reply most i (origin most (from l) (setup most i l).station earlier) c s

-- The half about replaced calls: of every station, at whatever time, and by every clock.
abbrev pub IndependentOfOthers : Type 0
IndependentOfOthers =
    (k : Clock) (most : Capacities) (g : Station) (earlier : List Call) (c : Call) (s : Address) → sender c ≡ some s
    → reply k most (run k most g earlier) c ≡ reply k most (run k most g (map (quiet s) earlier)) c
