-- What the writer writes, the reader reads to the same fields, for every input that the writer accepts.
-- Assumes nothing.
use Rattle.std.proofs.Common.{ℕ, ◌≤◌, ◌≡◌, refl, ap, ◌∙◌, Bool, true, false, not, List, [], length, take, drop, length-take, ltb, eqb, eq-eqb, eqb-true, ltb-false, zero-add, arith}
use Rattle.std.proofs.Math.Seq.{take-append_seam}
use Rattle.std.proofs.lemmas.Bool.{eqb-false, not-true, not-false}
use Rattle.laws.specs.Choice.{when◌then◌else◌}
use Rattle.laws.specs.Members.{All}
use Rattle.laws.proofs.Members.{all_take}
use Rattle.laws.proofs.Choice.{either}
use Rattle.laws.proofs.Walk.{start}
use Rattle.octets.specs.declared.numbers.Kind.{Kind}
use Rattle.octets.specs.Refusals.{bad_frame_length, too_many_elements, no_element, Refusal}
use Rattle.octets.specs.Numbers.{request_action}
use Rattle.octets.specs.Frames.{frame_kind, frame_cause}
use Rattle.octets.proofs.FrameLaws.{head-accepted, head_kind}
use Rattle.requests.specs.declared.Element.{Element}
use Rattle.requests.specs.Elements.{element_capacity, walk_elements}
use Rattle.requests.specs.Requests.{refused_request, lacks_element, request_of, request_kind, header_cause, read_request, Request}
use Rattle.request_writer.specs.Frames.{elements_octets, frame_octets}
use Rattle.request_writer.specs.Writer.{place_behind, refused_written, written_length, token_refusal, elements_answer, frame_answer, write_answer, write_octets, WriteOutcome, outcome, write_request, Written}
use Rattle.request_writer.specs.ReadBack.{ElementLengths, read_back, RequestRoundTrip, echoed}
use Rattle.request_writer.proofs.Lengths.{elements-length}
use Rattle.request_writer.proofs.ElementsBack.{at_elements, elements_back}

-- what an accepted call says of its arguments and its answer
pub record Accepted (kind : Kind) (dialog : ℕ) (es : List Element) (count room : ℕ) (w : Written) : Type 0 where
  pub fits : 267 ≤ room
  pub dialog_token : eqb dialog 0 ≡ false
  pub tokens : (token_refusal kind [] (take count es)).number ≡ 0
  pub few : count ≤ element_capacity
  pub some : lacks_element kind count ≡ false
  pub ends : w.length ≡ place_behind kind (take count es)

module _ (kind : Kind) (es : List Element) (count : ℕ) where
  pub record Elements (w : Written) : Type 0 where
    pub tokens : (token_refusal kind [] (take count es)).number ≡ 0
    pub few : count ≤ element_capacity
    pub ends : w.length ≡ place_behind kind (take count es)

  pub elements-accepted : (elements_answer kind es count).refusal.number ≡ 0 → Elements (elements_answer kind es count)
  unfolding elements_answer
  elements-accepted =
      let P : Written → Type 0 = λ (w : Written). w.refusal.number ≡ 0 → Elements w in
      let bad : Refusal = token_refusal kind [] (take count es) in
      either P (not (eqb bad.number 0)) (refused_written bad.number bad.place) _ (λ b z. absurd (eqb-false _ 0 (not-true _ b) z))
      (λ ok. either P (ltb element_capacity count) (refused_written too_many_elements (place_behind kind es)) (written_length (place_behind kind (take count es))) (λ _ z. absurd (omega arith))
      (λ few _. record { tokens = eqb-true _ _ (not-false _ ok); few = ltb-false _ _ few; ends = refl }))

  pub record Framed (w r : Written) : Type 0 where
    pub same : r ≡ w
    pub some : lacks_element kind count ≡ false

  pub frame-accepted : (w : Written) → (frame_answer kind count w).refusal.number ≡ 0 → Framed w (frame_answer kind count w)
  unfolding frame_answer
  frame-accepted w =
      let P : Written → Type 0 = λ (r : Written). r.refusal.number ≡ 0 → Framed w r in
      either P (not (eqb w.refusal.number 0)) w _ (λ b z. absurd (eqb-false _ 0 (not-true _ b) z))
      (λ _. either P (lacks_element kind count) (refused_written no_element 0) w (λ _ z. absurd (omega arith)) (λ d _. record { same = refl; some = d }))

  module _ (dialog room : ℕ) where
    pub accepted : (write_answer kind dialog es count room).refusal.number ≡ 0 → Accepted kind dialog es count room (write_answer kind dialog es count room)
    unfolding write_answer
    accepted =
        let P : Written → Type 0 = λ (w : Written). w.refusal.number ≡ 0 → Accepted kind dialog es count room w in
        either P _ _ _ (λ _ z. absurd (omega arith))
        (λ fits. either P _ _ _ (λ _ z. absurd (omega arith))
        (λ token z.
        let f = frame-accepted (elements_answer kind es count) z in
        let e = elements-accepted (rw f.same at z) in
        record { fits = ltb-false _ _ fits; dialog_token = token; tokens = e.tokens; few = e.few; some = f.some; ends = ap (λ (w : Written). w.length) f.same ∙ e.ends }))

module _ (kind : Kind) (dialog : ℕ) (es : List Element) (count : ℕ) (s : List ℕ) (eight : length es ≡ element_capacity) (shapes : All ElementLengths es)
    (ok : (write_answer kind dialog es count (length s)).refusal.number ≡ 0) where
  abbrev pub frame : List ℕ
  frame = frame_octets kind dialog (take count es)

  a : Accepted kind dialog es count (length s) (write_answer kind dialog es count (length s))
  a = accepted kind es count dialog (length s) ok

  asked-length : length (take count es) ≡ count
  asked-length = length-take count es ∙ omega (arith, a.few)

  walk_back : walk_elements element_capacity frame kind ≡ at_elements (length frame) count (read_back kind dialog es count).elements
  unfolding frame_octets walk_elements read_back
  walk_back =
      elements_back kind frame (walk_elements element_capacity frame kind) (take count es) [] 3 0 (all_take count es shapes) refl (omega (arith, asked-length, a.few)) a.tokens refl (omega arith)
      (start _ _ (length frame) _ _ (omega arith))
      ∙ rw (asked-length, zero-add count)

  -- the answer is the frame's length, at most 267
  pub frame-length : (write_answer kind dialog es count (length s)).length ≡ length frame
  unfolding frame_octets
  frame-length = a.ends ∙ omega arith

  pub frame-fits : length frame ≤ 267
  unfolding frame_octets
  frame-fits = omega (arith, elements-length kind 0 (take count es) (all_take count es shapes), asked-length, a.few)

  pub frame-written : take (write_answer kind dialog es count (length s)).length (write_octets kind dialog es count s) ≡ frame
  unfolding write_octets when◌then◌else◌
  frame-written = rw (frame-length, eq-eqb _ 0 ok) (take-append_seam frame (drop (length frame) s))

  frame-kind : request_kind frame ≡ kind
  unfolding frame_octets
  frame-kind = head_kind dialog (elements_octets kind (take count es)) request_action refl kind

  frame_header : header_cause frame kind ≡ 0
  unfolding header_cause frame_octets when◌then◌else◌
  frame_header = rw (head-accepted dialog (elements_octets kind (take count es)) (request_action kind) (omega (arith, frame-fits)), a.dialog_token)

  frame-read : read_request element_capacity frame ≡ read_back kind dialog es count
  unfolding read_request request_of frame_octets read_back when◌then◌else◌
  frame-read = rw (frame-kind, frame_header, walk_back, a.some)

-- What the writer writes, the reader reads back to the same fields.
pub request_round_trip : RequestRoundTrip
request_round_trip kind dialog es count s eight shapes ok = rw (frame-written kind dialog es count s eight shapes ok) (frame-read kind dialog es count s eight shapes ok)

-- ---- written and then read

-- an answer's length: the frame's, at most 267, or 0 where it is refused
pub record Bounded (w : Written) : Type 0 where
  pub most : w.length ≤ 267
  pub refused-zero : (w.refusal.number ≡ 0 → ⊥) → w.length ≡ 0

refused_bounded : (n p : ℕ) → Bounded (refused_written n p)
refused_bounded n p = record { most = omega arith; refused-zero = λ _. refl }

module _ (kind : Kind) (dialog : ℕ) (es : List Element) (count : ℕ) (shapes : All ElementLengths es) (eight : length es ≡ element_capacity) where
  elements_bounded : Bounded (elements_answer kind es count)
  unfolding elements_answer
  elements_bounded =
      let bad : Refusal = token_refusal kind [] (take count es) in
      either Bounded (not (eqb bad.number 0)) (refused_written bad.number bad.place) _ (λ _. refused_bounded _ _)
      (λ _. either Bounded (ltb element_capacity count) (refused_written too_many_elements (place_behind kind es)) (written_length (place_behind kind (take count es))) (λ _. refused_bounded _ _)
      (λ _. record { most = omega (arith, elements-length kind 0 (take count es) (all_take count es shapes), length-take count es); refused-zero = λ z. absurd (z refl) }))

  frame_bounded : (w : Written) → Bounded w → Bounded (frame_answer kind count w)
  unfolding frame_answer
  frame_bounded w p =
      either Bounded (not (eqb w.refusal.number 0)) w _ (λ _. p) (λ _. either Bounded (lacks_element kind count) (refused_written no_element 0) w (λ _. refused_bounded _ _) (λ _. p))

  pub answer_bounded : (room : ℕ) → Bounded (write_answer kind dialog es count room)
  unfolding write_answer
  answer_bounded room =
      either Bounded _ _ _ (λ _. refused_bounded _ _) (λ _. either Bounded _ _ _ (λ _. refused_bounded _ _) (λ _. frame_bounded _ elements_bounded))

  pub echo_read : (s y : List ℕ) (w : Written) (r : Request) → length s ≡ 267 → outcome w y ≡ write_request kind dialog es count s → r ≡ read_request element_capacity (take w.length y)
      → r ≡ echoed kind dialog es count
  unfolding echoed frame_kind frame_cause header_cause read_request when◌then◌else◌
  echo_read s y w r long wrote read = rw (← long) (go (eqb (write_answer kind dialog es count (length s)).refusal.number 0) refl)
    where
      len : w.length ≡ (write_answer kind dialog es count (length s)).length
      len = ap (λ (o : WriteOutcome). o.answer.length) wrote

      octets : y ≡ write_octets kind dialog es count s
      octets = ap (λ (o : WriteOutcome). o.octets) wrote

      go : (t : Bool) → eqb (write_answer kind dialog es count (length s)).refusal.number 0 ≡ t → r ≡ (when t then read_back kind dialog es count else refused_request bad_frame_length 0)
      go true q = read ∙ rw (len, octets) (request_round_trip kind dialog es count s eight shapes (eqb-true _ 0 q))
      go false q = read ∙ rw (len, (answer_bounded (length s)).refused-zero (eqb-false _ 0 q))
