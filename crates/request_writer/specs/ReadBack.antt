-- Demand 2 for requests: what the reader finds in a frame that the writer wrote, the same fields. What the kind or the type does not have is
-- 0, or absent. The proof of the round trip is in proofs/RoundTrip.antt.
-- Assumes nothing.
use Rattle.std.specs.Prelude.{ℕ, suc, ◌+◌, ◌≡◌, true, List, [], ◌∷◌, ◌++◌, map, length, take, drop, eqb}
use Rattle.laws.specs.Choice.{when◌then◌else◌}
use Rattle.laws.specs.Members.{All}
use Rattle.octets.specs.declared.numbers.Kind.{Kind}
use Rattle.octets.specs.declared.numbers.Kind.TheVariants.{Event, Diagnostic}
use Rattle.octets.specs.Refusals.{no_refusal, bad_frame_length}
use Rattle.octets.specs.Numbers.{request_buffer}
use Rattle.subelements.specs.declared.Condition.{Condition}
use Rattle.subelements.specs.Subelements.{body_at, absent, no_filter}
use Rattle.requests.specs.declared.Element.{Element}
use Rattle.requests.specs.Elements.{element_capacity, blank_elements}
use Rattle.requests.specs.Requests.{refused_request, read_request, Request}
use Rattle.request_writer.specs.Frames.{condition_length}
use Rattle.request_writer.specs.Writer.{write_answer, write_octets}

-- a condition: the octets that are written, 0 past them
unfoldable pub read_condition : ℕ → ℕ → Condition → Condition
read_condition ty id c =
    when eqb (condition_length ty id c) 0 then absent
    else record { present = true; octets = body_at c.octets 0 (condition_length ty id c) }

-- those from an ID on
unfoldable pub read_filter : ℕ → ℕ → List Condition → List Condition
read_filter ty id [] = []
read_filter ty id (c ∷ cs) = read_condition ty id c ∷ read_filter ty (suc id) cs

-- how many of them are written
unfoldable pub written_conditions : ℕ → ℕ → List Condition → ℕ
written_conditions ty id [] = 0
written_conditions ty id (c ∷ cs) = (when eqb (condition_length ty id c) 0 then 0 else 1) + written_conditions ty (suc id) cs

-- an event has a limit, and the conditions of its type; a diagnostic has a timeout
unfoldable pub element_back : Kind → Element → Element
element_back Event e = record {
  token = e.token;
  ty = e.ty;
  limit = e.limit;
  subs = written_conditions e.ty 0 e.filter;
  timeout = 0;
  filter = read_filter e.ty 0 e.filter;
}
element_back Diagnostic e = record { token = e.token; ty = e.ty; limit = 0; subs = 0; timeout = e.timeout; filter = no_filter }

-- the request of the elements handed in; the places past them are blank
unfoldable pub read_back : Kind → ℕ → List Element → ℕ → Request
read_back kind dialog es count = record {
  refusal = no_refusal;
  kind = kind;
  dialog = dialog;
  count = count;
  elements = map (element_back kind) (take count es) ++ drop count blank_elements;
}

-- the lengths of the arrays inside an element, which code has by their types
abbrev pub EightOctets : Condition → Type 0
EightOctets c = length c.octets ≡ 8

pub record ElementLengths (e : Element) : Type 0 where
  pub filter : length e.filter ≡ 5
  pub octets : All EightOctets e.filter

-- for every input that the writer accepts, whatever the lent buffer s, the reader reads the octets written to the same fields
abbrev pub RequestRoundTrip : Type 0
RequestRoundTrip =
    (kind : Kind) (dialog : ℕ) (es : List Element) (count : ℕ) (s : List ℕ) → length es ≡ element_capacity → All ElementLengths es
    → let answer = write_answer kind dialog es count (length s) in
    answer.refusal.number ≡ 0 → read_request element_capacity (take answer.length (write_octets kind dialog es count s)) ≡ read_back kind dialog es count

-- written and then read: the request, or where the writer refuses, what an empty frame reads to
unfoldable pub echoed : Kind → ℕ → List Element → ℕ → Request
echoed kind dialog es count =
    when eqb (write_answer kind dialog es count request_buffer).refusal.number 0 then read_back kind dialog es count
    else refused_request bad_frame_length 0
