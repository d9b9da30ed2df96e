-- Document 02 (c)'s case: "A powered gate in storage logged two transitions a little over 49.7 days apart. The frequent condition counted
-- them as a minute apart". Its proof is in proofs/StoredGate.antt.
-- Assumes nothing.
use Rattle.std.specs.Prelude.{ℕ, ◌≡◌, true, false, List, [], ◌∷◌, map}
use Rattle.events.specs.declared.Entry.{Entry}
use Rattle.events.specs.Log.{type_of, stamp_of}
use Rattle.events.specs.Loggings.{transition}
use Rattle.events.specs.Conditions.{recent_in}
use Rattle.model.specs.Clocks.{Clock, counter_clock, elapsed_clock}
use Rattle.model.specs.Model.{clock, logging}
use Rattle.model.specs.Starred.{slow_transition, some_gate, waits}

-- transitions a turn and a minute apart, and a clock reading half a turn after the first
unfoldable pub stored_log : Clock → List Entry
stored_log k = (some_gate k (logging 0 (transition slow_transition) ∷ clock 2147483648 ∷ logging 60000 (transition slow_transition) ∷ [])).log

-- how many of them are within a minute before the second
abbrev pub stored_count : Clock → ℕ
stored_count k = recent_in k.since (map type_of (stored_log k)) (map stamp_of (stored_log k)) 0 1 1

-- both were, and now the second alone; and the counterpart: a diagnostic of the longest timeout, looked at when that has passed and a turn
-- and a second after acceptance, was outstanding, and now is not
pub record StoredGate : Type 0 where
  pub counted-before : stored_count counter_clock ≡ 2
  pub counted-now : stored_count elapsed_clock ≡ 1
  pub waited-before : waits counter_clock 65535 0 (65535000 ∷ 1000 ∷ []) ≡ true
  pub waits-no-more : waits elapsed_clock 65535 0 (65535000 ∷ 1000 ∷ []) ≡ false
