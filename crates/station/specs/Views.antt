-- The station of the code as the model has it. A view takes what the counts say is there; a count past its array's end counts as the end,
-- and the free places are not looked at.
-- Assumes nothing.
use Rattle.std.specs.Prelude.{ℕ, List, map, take}
use Rattle.std.proofs.Math.Option.{none, some}
use Rattle.laws.specs.Choice.{when◌then◌else◌}
use Rattle.events.specs.Log.{logged}
use Rattle.model.specs.Clocks.{Timer}
use Rattle.model.specs.Model.{Station, Result}
use Rattle.requesters.specs.Views.{view_requester, view_identity, view_answer}
use Rattle.requesters.specs.declared.Answer.{Answer}
use Rattle.station.specs.declared.Timer.{Timer as CodeTimer}
use Rattle.station.specs.declared.Station.{Station as CodeStation}
use Rattle.station.specs.declared.Outcome.{Outcome}
use Rattle.station.specs.declared.Changed.{Changed}

-- the timer of the code: its reading is that of a call where one was made
unfoldable pub view_timer : CodeTimer → Timer
view_timer t = record { last = when t.started then some t.last.0 else none; now = t.now.0 }

unfoldable pub view : CodeStation → Station
view g =
    record {
      timer = view_timer g.timer;
      identity = view_identity g.length g.identity;
      log = logged g.log;
      requesters = map view_requester (take g.count g.requesters);
    }

-- what a call gives, with the lent buffer afterwards ([] where none was lent)
unfoldable pub view_outcome : Outcome → List ℕ → Result
view_outcome o buffer = record { station = view o.station; answer = view_answer o.answer; buffer = buffer }

-- a station as a call left it where it stands, and the answer
abbrev pub left_outcome : CodeStation → Answer → Outcome
left_outcome g a = record { station = g; answer = a }

-- a station with what a frame or a report call changes of it, and the answer
abbrev pub changed_outcome : CodeStation → Changed → Outcome
changed_outcome g c =
    record { station = record { timer = c.timer; identity = g.identity; length = g.length; log = g.log; requesters = c.requesters; count = g.count }; answer = c.answer }
