-- Document 01, "Frames and elements": the numbers of frames, elements and statuses. src/numbers.rt has them under the same names.
-- Assumes nothing.
use Rattle.std.specs.Prelude.{ℕ, eqb}
use Rattle.laws.specs.Choice.{when◌then◌else◌}
use Rattle.octets.specs.declared.numbers.Kind.{Kind}
use Rattle.octets.specs.declared.numbers.Kind.TheVariants.{Event, Diagnostic}

-- "category 10"
abbrev pub category : ℕ
category = 10

-- the kind of a number, where one stands for it: 0 is an event's
abbrev pub kind_of : ℕ → Kind
kind_of n = when eqb n 0 then Event else Diagnostic

abbrev pub number_of : Kind → ℕ
number_of Event = 0
number_of Diagnostic = 1

-- "Actions: 0 Event Request, 1 Event Report, 2 Diagnostic Request, 3 Diagnostic Report."
abbrev pub request_action : Kind → ℕ
request_action Event = 0
request_action Diagnostic = 2

abbrev pub report_action : Kind → ℕ
report_action Event = 1
report_action Diagnostic = 3

-- "In each frame only its own element ID counts (78, 79, 80, 81 in that order)"
abbrev pub request_id : Kind → ℕ
request_id Event = 78
request_id Diagnostic = 80

abbrev pub report_id : Kind → ℕ
report_id Event = 79
report_id Diagnostic = 81

-- "Status: 0 Successful, 1 Fail, 2 Refused, 3 Incapable, 4 Cancelled."
abbrev pub successful : ℕ
successful = 0

abbrev pub incapable : ℕ
incapable = 3

abbrev pub cancelled : ℕ
cancelled = 4

-- "Frame under 3 or over 2,304 octets"
abbrev pub shortest_frame : ℕ
shortest_frame = 3

abbrev pub longest_frame : ℕ
longest_frame = 2304

-- "Buffer under 260 octets for a report, 267 for a request"
abbrev pub report_buffer : ℕ
report_buffer = 260

abbrev pub request_buffer : ℕ
request_buffer = 267
