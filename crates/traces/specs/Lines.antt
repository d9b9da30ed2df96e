-- The lines that `replay` prints of answers, explanations and lent buffers.
-- Assumes nothing.
use Rattle.std.specs.Prelude.{ℕ, ◌+◌, ◌*◌, List, [], ◌++◌}
use Rattle.octets.specs.Refusals.{refusal_of}
use Rattle.texts.specs.Text.{text, hexes, named, refusal_line}
use Rattle.explanations.specs.Explanations.{Explanation, Refused as Unexplained, LoggedAfter, WrongType, Unmet, LimitReached, Reported}
use Rattle.requesters.specs.declared.Answer.{Answer}
use Rattle.requesters.specs.declared.Answer.TheVariants.{Accepted, Nothing, Length, Refused}
use Rattle.traces.specs.Places.{longest_length}

-- a name and a number
unfoldable pub number_line : List ℕ → ℕ → List ℕ
number_line name n = named name n ++ text "\n"

-- `accepted`, `nothing`, `length N`, `refused N at P`
unfoldable pub answer_line : Answer → List ℕ
answer_line Accepted = text "accepted\n"
answer_line Nothing = text "nothing\n"
answer_line (Length n) = number_line (text "length ") n
answer_line (Refused r) = refusal_line (refusal_of r)

-- "`logged after acceptance`, `wrong type`, `condition N` (the subelement's ID), `limit reached`, `reported`, or `refused N at P`"
unfoldable pub explanation_line : Explanation → List ℕ
explanation_line LoggedAfter = text "logged after acceptance\n"
explanation_line WrongType = text "wrong type\n"
explanation_line (Unmet id) = number_line (text "condition ") id
explanation_line LimitReached = text "limit reached\n"
explanation_line Reported = text "reported\n"
explanation_line (Unexplained r) = refusal_line r

-- `trace refused at P`
abbrev pub trace_refusal_line : ℕ → List ℕ
trace_refusal_line place = number_line (text "trace refused at ") place

-- "`buffer ` and the whole lent buffer in lowercase hexadecimal"
abbrev pub octets_text : List ℕ → List ℕ
octets_text o = hexes [] o

unfoldable pub buffer_line : List ℕ → List ℕ
buffer_line o = text "buffer " ++ octets_text o ++ text "\n"

-- ---- how many octets they have at most

-- an answer, an explanation, or a refusal of the trace
abbrev pub line_most : ℕ
line_most = 38

-- the longest buffer: `buffer `, its octets in hexadecimal, and a line feed
abbrev pub buffer_line_most : ℕ
buffer_line_most = 7 + 2 * longest_length + 1
