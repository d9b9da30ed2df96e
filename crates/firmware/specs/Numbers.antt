-- What crosses into C: this paper's numbers and values for each kind and each answer.
-- Assumes nothing.
use Rattle.std.specs.Prelude.{ℕ, List, map, Bool, true, false, not, eqb}
use Rattle.laws.specs.Choice.{when◌then◌else◌}
use Rattle.octets.specs.Numbers.{number_of}
use Rattle.model.specs.Model.{Station, Answer, accepted, nothing, of_length, turned_away, Result}
use Rattle.station.specs.Views.{view}
use Rattle.station.specs.declared.Station.{Station as LibraryStation}
use Rattle.subelements.specs.declared.Condition.{Condition as SubelementsCondition}
use Rattle.requests.specs.declared.Element.{Element as RequestsElement}
use Rattle.request_writer.specs.Writer.{WriteOutcome, Written}
use Rattle.report_reader.specs.declared.Element.{Element as ReaderElement}
use Rattle.report_reader.specs.Reader.{Step as ReaderStep, Report as ReaderReport}
use Rattle.firmware.specs.declared.Reply.{Reply}
use Rattle.firmware.specs.declared.Outcome.{Outcome}
use Rattle.firmware.specs.declared.Condition.{Condition}
use Rattle.firmware.specs.declared.RequestElement.{RequestElement}
use Rattle.firmware.specs.declared.Report.{Report}
use Rattle.firmware.specs.declared.ReportElement.{ReportElement}
use Rattle.firmware.specs.declared.Step.{Step}

-- ---- flags: any number but 0 is true; a flag that is given is 0 or 1

abbrev pub is_set : ℕ → Bool
is_set n = not (eqb n 0)

abbrev pub flag : Bool → ℕ
flag true = 1
flag false = 0

-- ---- answers: "accepted", "nothing", length, or refusal number and place

abbrev pub numbered_reply : ℕ → ℕ → ℕ → ℕ → Reply
numbered_reply code cause place length = record { code = code; cause = cause; place = place; length = length }

unfoldable pub reply_to : Answer → Reply
reply_to accepted = numbered_reply 0 0 0 0
reply_to nothing = numbered_reply 1 0 0 0
reply_to (of_length n) = numbered_reply 2 0 0 n
reply_to (turned_away r) = numbered_reply 3 r.number r.place 0

-- ---- the calls on a station: the model's station and the lent buffer, with the answer's numbers

pub record Numbered : Type 0 where
  pub station : Station
  pub reply : Reply
  pub buffer : List ℕ

abbrev pub numbered : Result → Numbered
numbered r = record { station = r.station; reply = reply_to r.answer; buffer = r.buffer }

-- a station of the library, a reply and a buffer, as a call leaves them
abbrev pub left_with : LibraryStation → Reply → List ℕ → Numbered
left_with station reply buffer = record { station = view station; reply = reply; buffer = buffer }

abbrev pub viewed : Outcome → List ℕ → Numbered
viewed o buffer = left_with o.station o.reply buffer

-- ---- what the request writer takes: the library's elements

abbrev pub condition_of : Condition → SubelementsCondition
condition_of c = record { present = is_set c.present; octets = c.octets }

abbrev pub element_from : RequestElement → RequestsElement
element_from e = record {
  token = e.token;
  ty = e.ty;
  timeout = e.timeout;
  subs = 0;
  limit = e.limit;
  filter = map condition_of e.filter;
}

-- ---- the request writer: its answer's numbers, and the lent buffer

unfoldable pub reply_written : Written → Reply
reply_written w =
    when not (eqb w.refusal.number 0) then numbered_reply 3 w.refusal.number w.refusal.place 0
    else numbered_reply 2 0 0 w.length

pub record Write : Type 0 where
  pub reply : Reply
  pub octets : List ℕ

abbrev pub write : Reply → List ℕ → Write
write reply octets = record { reply = reply; octets = octets }

abbrev pub numbered_write : WriteOutcome → Write
numbered_write o = write (reply_written o.answer) o.octets

-- ---- the report reader

abbrev pub numbered_report : ReaderReport → Report
numbered_report r = record {
  cause = r.refusal.number;
  kind = number_of r.kind;
  dialog = r.dialog;
  place = r.refusal.place;
  count = r.count;
}

abbrev pub numbered_element : ReaderElement → ReportElement
numbered_element e = record {
  token = e.token;
  ty = e.ty;
  status = e.status;
  logged = flag e.logged;
  length = e.length;
  subs = e.subs;
}

abbrev pub numbered_step : ReaderStep → Step
numbered_step t = record {
  cause = t.refusal.number;
  found = flag t.found;
  place = t.refusal.place;
  rest = t.rest;
  next = t.next.at;
  element = numbered_element t.element;
}
