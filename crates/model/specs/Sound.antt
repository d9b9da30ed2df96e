-- What holds of a station after every list of calls from setup on, whatever its clock: where its log's entries and its identity come from, and
-- which forms its requesters follow.
-- Its proof is in proofs/Sound.antt.
-- Assumes nothing.
use Rattle.std.specs.Prelude.{◌≡◌, true, List, [], map, ℕ}
use Rattle.std.proofs.Math.Option.{none, some}
use Rattle.laws.specs.Members.{Among, All}
use Rattle.events.specs.declared.Entry.{Entry}
use Rattle.events.specs.Times.{is_form}
use Rattle.events.specs.Loggings.{Logging, entry_for}
use Rattle.identities.specs.Identity.{good_identity}
use Rattle.model.specs.Clocks.{Clock}
use Rattle.model.specs.Model.{Capacities, Listed, Requester, Station, Call, logging}
use Rattle.model.specs.Stations.{setup, log_cause, step}
use Rattle.model.specs.Runs.{run}

abbrev pub logging_call : Logging → Call
logging_call x = logging x.reading x.event

-- a log whose entries, oldest first, were left by some of the calls, each of an event that logging does not refuse
pub record LoggedBy (cs : List Call) (log : List Entry) : Type 0 where
  pub list : List Logging
  pub is : log ≡ map entry_for list
  pub called : All (λ x. Among (logging_call x) cs) list
  pub good : All (λ x. log_cause x.event ≡ 0) list

-- a station that setup was given the identity i for: it has it, and it is a good one; or it has none, and no requester
pub data Identified (i : List ℕ) (g : Station) : Type 0 where
  identified : g.identity ≡ some i → good_identity i ≡ true → Identified i g
  unidentified : g.identity ≡ none → g.requesters ≡ [] → Identified i g

-- document 02 (g): a requester's form is one of the two
abbrev pub Follows : Requester → Type 0
Follows r = is_form r.form ≡ true

pub record Sound (i : List ℕ) (cs : List Call) (g : Station) : Type 0 where
  pub log : LoggedBy cs g.log
  pub identity : Identified i g
  pub forms : All Follows g.requesters

-- setup gives it, every call of the list keeps it, and so it holds after the list
pub record AlwaysSound : Type 0 where
  pub at-setup : (most : Capacities) (i : List ℕ) (l : List Listed) (cs : List Call) → Sound i cs (setup most i l).station
  pub kept : (k : Clock) (most : Capacities) (i : List ℕ) (cs : List Call) (g : Station) (c : Call) → Among c cs → Sound i cs g → Sound i cs (step k most g c).station
  pub after : (k : Clock) (most : Capacities) (i : List ℕ) (l : List Listed) (cs : List Call) → Sound i cs (run k most (setup most i l).station cs)
