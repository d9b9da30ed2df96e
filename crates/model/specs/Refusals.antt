-- Demand 1: what a refused call leaves, and by which causes a call is refused. Claims about every station, whatever its clock and capacities, and every call; their
-- proofs are in proofs/Refusals.antt.
-- Assumes nothing.
use Rattle.std.specs.Prelude.{ℕ, ◌<◌, ◌≡◌, List, [], ◌∷◌}
use Rattle.laws.specs.Members.{Among}
use Rattle.octets.specs.Refusals.{no_element, group_destination, unknown_requester, short_buffer, bad_time, bad_requester_list, bad_identity, bad_report_body, Refusal}
use Rattle.requests.specs.Requests.{request_causes}
use Rattle.model.specs.Clocks.{Clock}
use Rattle.model.specs.Model.{Capacities, Listed, Station, Call, clock, logging, frame, report, roam, change, turned_away}
use Rattle.model.specs.Stations.{nobody, setup, reading_of, step}

-- the lent buffer of a call at entry ([] where none is lent)
unfoldable pub lent_buffer : Call → List ℕ
lent_buffer (clock t) = []
lent_buffer (logging t e) = []
lent_buffer (frame t d s o) = []
lent_buffer (report t s k b) = b
lent_buffer (roam t l) = []
lent_buffer (change t l) = []

-- "a gate's frame call 11, 12, then, as in the frame program, 1, 2, 3, .. 10"; "Report call: 12, 13. Logging: 14.", and by document 02 (a) 17; "a move or network
-- change .. is refused by 15 for its list, otherwise by 16". A bare clock reading is never refused
unfoldable pub causes_of : Call → List ℕ
causes_of (clock t) = []
causes_of (logging t e) = bad_time ∷ bad_report_body ∷ []
causes_of (frame t d s o) = group_destination ∷ unknown_requester ∷ request_causes
causes_of (report t s k b) = unknown_requester ∷ short_buffer ∷ []
causes_of (roam t l) = bad_requester_list ∷ bad_identity ∷ []
causes_of (change t l) = bad_requester_list ∷ bad_identity ∷ []

-- "Setup: 15, 16."
abbrev pub setup_causes : List ℕ
setup_causes = bad_requester_list ∷ bad_identity ∷ []

-- a refusal by one of some causes; those of the station itself, past the reader's, return "place 0"
pub record RefusedBy (causes : List ℕ) (r : Refusal) : Type 0 where
  pub number : Among r.number causes
  pub place : no_element < r.number → r.place ≡ 0

-- "A refusal .. writes no octet of a lent buffer, and leaves a gate as a bare clock reading would."
pub record LeftAlone (k : Clock) (most : Capacities) (g : Station) (c : Call) (r : Refusal) : Type 0 where
  pub refusal : RefusedBy (causes_of c) r
  pub station : (step k most g c).station ≡ (step k most g (clock (reading_of c))).station
  pub buffer : (step k most g c).buffer ≡ lent_buffer c

abbrev pub RefusedCall : Type 0
RefusedCall = (k : Clock) (most : Capacities) (g : Station) (c : Call) (r : Refusal) → (step k most g c).answer ≡ turned_away r → LeftAlone k most g c r

-- "setup yields a gate with no console. .. Setup refused by 15 yields the same consoleless gate."
pub record LeftUnnamed (most : Capacities) (i : List ℕ) (l : List Listed) (r : Refusal) : Type 0 where
  pub refusal : RefusedBy setup_causes r
  pub station : (setup most i l).station ≡ nobody

abbrev pub RefusedSetup : Type 0
RefusedSetup = (most : Capacities) (i : List ℕ) (l : List Listed) (r : Refusal) → (setup most i l).answer ≡ turned_away r → LeftUnnamed most i l r
