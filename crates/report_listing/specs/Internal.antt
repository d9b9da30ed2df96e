-- Nobody has to believe this file: it has what the contracts of functions inside this crate speak of.
-- Assumes nothing.
use Rattle.std.specs.Prelude.{ℕ, ◌+◌, ◌*◌, ◌-◌, Bool, true, false, List, []}
use Rattle.laws.specs.Choice.{when◌then◌else◌}
use Rattle.octets.specs.declared.numbers.Kind.{Kind}
use Rattle.report_reader.specs.Reader.{element_read_at, Step}
use Rattle.report_listing.specs.Listing.{report_element_line}

-- ---- how many octets a text has at most

-- its time fields, an event with them, and the number of octets that are kept unread
abbrev pub times_most : ℕ
times_most = 66

abbrev pub event_most : ℕ
event_most = 240

abbrev pub unread_most : ℕ
unread_most = 26

-- what the line of an element has up to its status, behind it, and in all
abbrev pub head_most : ℕ
head_most = 41

abbrev pub tail_most : Bool → ℕ
tail_most true = event_most
tail_most false = unread_most

abbrev pub report_line_most : Bool → ℕ
report_line_most logged = head_most + tail_most logged + 1

-- the lines of the elements up to a position of the frame
abbrev pub lines_most : ℕ → ℕ
lines_most at = 14 * (at - 3)

-- ---- the line of what stands at a cursor

unfoldable pub step_line : ℕ → List ℕ → Kind → Step → List ℕ
step_line form s kind t = when t.found then report_element_line form kind (element_read_at form s t) else []

unfoldable pub step_most : Step → ℕ
step_most t = when t.found then report_line_most t.element.logged else 0
