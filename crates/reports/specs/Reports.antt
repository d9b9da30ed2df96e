-- Document 01, "Frames and elements": the octets of report elements.
-- Assumes nothing.
use Rattle.std.specs.Prelude.{ℕ, ◌+◌, List, [], ◌∷◌, ◌++◌, Option, Some, None, ◌≡◌, leb, length}
use Rattle.laws.specs.Choice.{when◌then◌else◌}
use Rattle.laws.specs.Buffers.{put_front}
use Rattle.octets.specs.declared.numbers.Kind.{Kind}
use Rattle.octets.specs.declared.numbers.Kind.TheVariants.{Event}
use Rattle.octets.specs.Numbers.{report_id, successful}
use Rattle.octets.specs.Elements.{framed}
use Rattle.events.specs.declared.Entry.{Entry}
use Rattle.events.specs.Log.{body_of, time_of}

-- "Report body: token, type, status", and what follows
unfoldable pub report_element : Kind → ℕ → ℕ → ℕ → List ℕ → List ℕ
report_element kind token ty status rest = framed (report_id kind) (token ∷ ty ∷ status ∷ rest)

-- "for status 0 of event type 0 .. 9 octets of time and 21 of transition", and so for each kind: its time fields in a form (document 02 (g)),
-- and its body
unfoldable pub event_element : ℕ → ℕ → Entry → List ℕ
event_element form token entry = report_element Event token entry.ty successful (time_of form entry ++ body_of entry)

-- an element's octets up to its status, with n octets behind them
abbrev pub report_head : Kind → ℕ → ℕ → ℕ → ℕ → List ℕ
report_head kind token ty status n = report_id kind ∷ (3 + n) ∷ token ∷ ty ∷ status ∷ []

-- the length of octets that fit a buffer, where they do
unfoldable pub fitting : List ℕ → List ℕ → Option ℕ
fitting o s = when leb (length o) (length s) then Some (length o) else None

-- octets put at the front of a buffer, whole or not at all: what their writer answers, and the buffer afterwards
pub record PutWhole (o s : List ℕ) (answer : Option ℕ) (after : List ℕ) : Type 0 where
  pub length : answer ≡ fitting o s
  pub octets : after ≡ (put_front o s).octets
