-- The laws that the writer's functions cite.
-- Assumes nothing.
use Rattle.std.proofs.Math.Seq.{take-append-add}
use Rattle.std.specs.Array.{IsFirstChunk}
use Rattle.laws.proofs.Older.{put_mid}
use Rattle.laws.specs.Choice.{when◌then◌else◌}
use Rattle.laws.specs.Buffers.{onto, pieces, wrote, put_at}
use Rattle.laws.proofs.Buffers.{length-onto, lent, lent_tail, putting_start, putting_at, putting_done}
use Rattle.octets.specs.declared.numbers.Kind.{Kind}
use Rattle.octets.specs.declared.numbers.Kind.TheVariants.{Event, Diagnostic}
use Rattle.std.proofs.Common.{Result, Ok, Err, ℕ, suc, ◌+◌, ◌-◌, ◌*◌, ◌≤◌, ◌<◌, ◌≡◌, refl, sym, ap, ◌∙◌, true, false, List, [], ◌∷◌, ◌++◌, append_assoc, append-nil, length, get_or, take, drop, length-append, length-take, drop_of_length-le, take-suc, take_all, take_at, drop_at, drop-drop, length-take-le, eq-eqb, ne_eqb, lt-ltb, le-ltb, add-one, arith}
use Rattle.std.specs.Result.{result_unwrap_or}
use Rattle.octets.specs.declared.refusals.Refusal.{Refusal as CodeRefusal}
use Rattle.octets.specs.Refusals.{bad_element_token, too_many_elements, short_buffer, zero_dialog_token, no_element}
use Rattle.requests.specs.Requests.{lacks_element}
use Rattle.octets.specs.Numbers.{request_action}
use Rattle.octets.specs.Fields.{low, high}
use Rattle.octets.specs.Elements.{framed}
use Rattle.subelements.specs.declared.Condition.{Condition}
use Rattle.requests.specs.declared.Element.{Element}
use Rattle.requests.specs.Elements.{element_capacity, past_elements, bad_token}
use Rattle.laws.proofs.Arrays.{take_next}
use Rattle.laws.proofs.Pieces.{pieces_snoc}
use Rattle.laws.proofs.Parts.{spelt, spelt_all}
use Rattle.request_writer.specs.Frames.{condition_length, condition_octets, filter_octets, element_body, element_octets, elements_octets, frame_octets}
use Rattle.request_writer.specs.Writer.{token_refusal, refused_written, written_length, elements_answer, frame_answer, write_answer, write_octets, outcome, write_request, Written, written}
use Rattle.request_writer.proofs.ConditionsBack.{length-within}
use Rattle.request_writer.proofs.RoundTrip.{elements-accepted, frame-accepted}

-- ---- general

-- a head that is put in front of what stands behind it
pub headed : (h o s : List ℕ) (a : ℕ) → length h ≡ a → a ≤ length s → onto h (take a s ++ onto o (drop a s)) ≡ onto (h ++ o) s
headed h o s a e fits =
    let y : List ℕ = onto o (drop a s) in
    let n : a + length o ≡ length (h ++ o) = omega (arith, length-append h o) in
    ap (λ (x : List ℕ). h ++ x) (ap (λ (k : ℕ). drop k (take a s ++ y)) e ∙ drop_at (take a s) y a (length-take-le a s fits))
    ∙ sym (append_assoc h o (drop (length o) (drop a s)))
    ∙ ap (λ (x : List ℕ). (h ++ o) ++ x) (drop-drop (length o) a s ∙ ap (λ (k : ℕ). drop k s) n)

-- of an array the k octets behind the first a were lent, and o put at their front
pub lent_array : (o s y : List ℕ) (a k : ℕ) → length s ≡ a + k → y ≡ onto o (take k (drop a s)) → put_mid a k s y ≡ take a s ++ onto o (drop a s)
lent_array o s y a k e does =
    let n : length s - a ≡ k = omega (arith, e) in
    let t : put_mid a (length s - a) s y ≡ take a s ++ onto o (drop a s) = lent_tail o s y a (omega (arith, e)) (rw n does) in
    rw n at t

-- the first n octets were lent as an array, and o put at their front
pub chunk_front : (o s y : List ℕ) (n : ℕ) {front : List ℕ} → IsFirstChunk s front n → length o ≤ n → y ≡ onto o front → y ++ drop n s ≡ onto o s
chunk_front o s y n {front} is short does = lent [] o s s y 0 n refl refl (omega (arith, is.enough)) short (does ∙ ap (onto o) is.same)

-- ---- conditions

module _ (ty id : ℕ) (c : Condition) where
  pub absent-octets : condition_length ty id c ≡ 0 → condition_octets ty id c ≡ []
  unfolding condition_octets when◌then◌else◌
  absent-octets e = rw (eq-eqb _ 0 e)

  present_octets : (condition_length ty id c ≡ 0 → ⊥) → condition_octets ty id c ≡ framed id (take (condition_length ty id c) c.octets)
  unfolding condition_octets when◌then◌else◌
  present_octets e = rw (ne_eqb _ 0 e)

  -- the first octets of a condition's array of ten
  pub condition-source : (n : ℕ) → (n ≡ 0 → ⊥) → length c.octets ≡ 8 → n ≡ condition_length ty id c
      → take (2 + n) (id ∷ n ∷ spelt 8 0 c.octets 0) ≡ condition_octets ty id c
  condition-source n some long e =
      let m : ℕ = condition_length ty id c in
      let l : length (take m c.octets) ≡ m = length-take-le m c.octets (omega (arith, length-within ty id c)) in
      take-append-add (id ∷ n ∷ []) _ n
      ∙ ap (λ (o : List ℕ). id ∷ n ∷ take n o) (spelt_all 8 c.octets long)
      ∙ ap (λ (k : ℕ). id ∷ k ∷ take k c.octets) e
      ∙ ap (λ (k : ℕ). id ∷ k ∷ take m c.octets) (sym l)
      ∙ sym (present_octets (λ z. some (e ∙ z)))

-- ---- elements

module _ (e : Element) where
  pub diagnostic_octets : 80 ∷ 4 ∷ e.token ∷ e.ty ∷ low e.timeout ∷ high e.timeout ∷ [] ≡ element_octets Diagnostic e
  unfolding element_octets element_body
  diagnostic_octets = refl

  pub event-octets : (n : ℕ) → n ≡ length (filter_octets e.ty e.filter)
      → (78 ∷ (3 + n) ∷ e.token ∷ e.ty ∷ e.limit ∷ []) ++ filter_octets e.ty e.filter ≡ element_octets Event e
  unfolding element_octets element_body
  event-octets n is =
      let m : 3 + n ≡ suc (suc (suc (length (filter_octets e.ty e.filter)))) = omega arith in
      rw m

-- ---- the elements, one behind the other: i of them stand at the front of buf, in `at` octets, and their tokens are good

pub record Laying (kind : Kind) (es : List Element) (count : ℕ) (s buf : List ℕ) (at i : ℕ) : Type 0 where
  pub few : i ≤ element_capacity
  pub within : i ≤ count
  pub eight : length es ≡ element_capacity
  pub room : length s ≡ 264
  pub ends : at ≡ length (elements_octets kind (take i es))
  pub small : at ≤ 33 * i
  pub front : buf ≡ onto (elements_octets kind (take i es)) s
  pub left : token_refusal kind (take i es) (drop i (take count es)) ≡ token_refusal kind [] (take count es)

pub laying_start : (kind : Kind) (es : List Element) (count : ℕ) (s : List ℕ) → length es ≡ element_capacity → length s ≡ 264 → Laying kind es count s s 0 0
unfolding pieces
laying_start kind es count s eight room =
    record { few = omega arith; within = omega arith; eight = eight; room = room; ends = refl; small = omega arith; front = refl; left = refl }

module _ {kind : Kind} {es : List Element} {count : ℕ} {s buf : List ℕ} {at i : ℕ} (l : Laying kind es count s buf at i) where
  pub laying_length : length buf ≡ length s
  laying_length = ap length l.front ∙ length-onto (elements_octets kind (take i es)) s (omega (arith, l.ends, l.small, l.few, l.room))

  module _ (more : i < count) (next : i < element_capacity) where
    taken : take (i + 1) es ≡ take i es ++ (get_or es i past_elements ∷ [])
    taken = rw add-one (take-suc es i past_elements (omega (arith, l.eight)))

    pub laying_bad : bad_token kind (take i es) (get_or es i past_elements).token ≡ true → refused_written bad_element_token (3 + at) ≡ elements_answer kind es count
    unfolding elements_answer token_refusal when◌then◌else◌
    laying_bad b = rw (← l.left, take_next es past_elements count i more (omega (arith, l.eight)), b, l.ends)

    pub laying_next : (n : ℕ) (y : List ℕ) → bad_token kind (take i es) (get_or es i past_elements).token ≡ false → n ≡ length (element_octets kind (get_or es i past_elements)) → n ≤ 33
        → y ≡ onto (element_octets kind (get_or es i past_elements)) (take (264 - at) (drop at buf))
        → Laying kind es count s (put_mid at (264 - at) buf y) (at + n) (i + 1)
    unfolding token_refusal when◌then◌else◌
    laying_next n y b is short does =
        let x : Element = get_or es i past_elements in
        let h : List ℕ = elements_octets kind (take i es) in
        let all : elements_octets kind (take (i + 1) es) ≡ h ++ element_octets kind x = ap (elements_octets kind) taken ∙ pieces_snoc (element_octets kind) 0 (take i es) x in
        let lb = laying_length in
        record {
          few = omega arith;
          within = omega arith;
          eight = l.eight;
          room = l.room;
          ends = sym (ap length all ∙ length-append h (element_octets kind x) ∙ omega (arith, l.ends, is));
          small = omega (arith, l.small);
          front = lent h (element_octets kind x) s buf y at (264 - at) (sym l.ends) l.front (omega (arith, lb, l.small, l.room)) (omega (arith, lb, l.small, l.room)) does ∙ ap (λ (o : List ℕ). onto o s) (sym all);
          left = rw taken (sym (rw (take_next es past_elements count i more (omega (arith, l.eight)), b)) ∙ l.left);
        }

  pub laying_ninth : i < count → element_capacity ≤ i → refused_written too_many_elements (3 + at) ≡ elements_answer kind es count
  unfolding elements_answer token_refusal when◌then◌else◌
  laying_ninth more h =
      let all : take i es ≡ es = take_all i es (omega (arith, l.eight)) in
      rw (← l.left, drop_of_length-le (take count es) {i = i} (omega (arith, length-take count es, l.eight)), lt-ltb element_capacity count (omega (arith, h, more)), l.ends, all)

  pub laying_end : count ≤ i → written_length (3 + at) ≡ elements_answer kind es count
  unfolding elements_answer token_refusal when◌then◌else◌
  laying_end h =
      let k : i ≡ count = omega (arith, l.within) in
      rw (← l.left, drop_of_length-le (take count es) {i = i} (omega (arith, length-take count es, l.eight)), le-ltb element_capacity count (omega (arith, l.few)), l.ends, k)

-- ---- the whole call

module _ (kind : Kind) (dialog : ℕ) (es : List Element) (count : ℕ) (s : List ℕ) where
  pub short : length s < 267 → refused_written short_buffer 0 ≡ write_answer kind dialog es count (length s)
  unfolding write_answer when◌then◌else◌
  short h = rw (lt-ltb (length s) 267 h)

  pub no_dialog : 267 ≤ length s → dialog ≡ 0 → refused_written zero_dialog_token 0 ≡ write_answer kind dialog es count (length s)
  unfolding write_answer when◌then◌else◌
  no_dialog h z = rw (le-ltb (length s) 267 h, eq-eqb dialog 0 z)

  pub answered : 267 ≤ length s → (dialog ≡ 0 → ⊥) → frame_answer kind count (elements_answer kind es count) ≡ write_answer kind dialog es count (length s)
  unfolding write_answer when◌then◌else◌
  answered h z = rw (le-ltb (length s) 267 h, ne_eqb dialog 0 z)

  -- a refused answer stays, and one of elements is the frame's, unless a diagnostic request has none
  pub unframed : (w : Written) → (w.refusal.number ≡ 0 → ⊥) → w ≡ frame_answer kind count w
  unfolding frame_answer when◌then◌else◌
  unframed w n = rw (ne_eqb w.refusal.number 0 n)

  pub with-elements : (n : ℕ) → lacks_element kind count ≡ false → written_length n ≡ frame_answer kind count (written_length n)
  unfolding frame_answer when◌then◌else◌
  with-elements n e = rw e

  pub without-elements : (n : ℕ) → lacks_element kind count ≡ true → refused_written no_element 0 ≡ frame_answer kind count (written_length n)
  unfolding frame_answer when◌then◌else◌
  without-elements n e = rw e

  pub nothing_written : (w : Written) → w ≡ write_answer kind dialog es count (length s) → (w.refusal.number ≡ 0 → ⊥) → outcome w s ≡ write_request kind dialog es count s
  unfolding write_octets when◌then◌else◌
  nothing_written w e n = rw (← e, ne_eqb w.refusal.number 0 n)

  pub frame-written : (w : Written) → w ≡ write_answer kind dialog es count (length s) → w.refusal.number ≡ 0 → (y : List ℕ) → y ≡ onto (frame_octets kind dialog (take count es)) s
      → outcome w y ≡ write_request kind dialog es count s
  unfolding write_octets when◌then◌else◌
  frame-written w e n y is = rw (← e, eq-eqb w.refusal.number 0 n, is)

-- an accepted answer: the elements stand in the body
module _ (kind : Kind) (es : List Element) (count : ℕ) (v w : Written) (answer : v ≡ elements_answer kind es count) (framed : w ≡ frame_answer kind count v) (ok : w.refusal.number ≡ 0) where
  pub kept : w ≡ v
  kept = framed ∙ (frame-accepted kind es count v (rw framed at ok)).same

  pub passed : v.refusal.number ≡ 0
  passed = rw kept at ok

  pub lasts : w.length ≡ 3 + length (elements_octets kind (take count es))
  lasts = ap (λ (x : Written). x.length) (kept ∙ answer) ∙ (elements-accepted kind es count (rw answer at passed)).ends

-- the header, and the elements behind it
module _ (kind : Kind) (dialog : ℕ) (es : List Element) (count n : ℕ) (s body zeros : List ℕ) (enough : 267 ≤ length s) (is : n ≡ length (elements_octets kind (take count es))) (bound : n ≤ 264)
    (does : body ≡ onto (elements_octets kind (take count es)) zeros) where
  pub frame-put : (k m : ℕ) (y z : List ℕ) → wrote k y ≡ put_at (10 ∷ request_action kind ∷ dialog ∷ []) 0 s → wrote m z ≡ put_at (take n body) 3 y
      → z ≡ onto (frame_octets kind dialog (take count es)) s
  unfolding frame_octets
  frame-put k m y z first second =
      let o : List ℕ = elements_octets kind (take count es) in
      let whole : List ℕ = 10 ∷ request_action kind ∷ dialog ∷ o in
      let p₁ = putting_at (putting_start whole s (omega arith)) (10 ∷ request_action kind ∷ dialog ∷ []) o refl k y first in
      let t : take n body ≡ o = ap (take n) does ∙ take_at o (drop (length o) zeros) n (sym is) in
      let three : k ≡ 3 = omega (arith, p₁.ends, ap length p₁.split, length-append p₁.head o) in
      putting_done (putting_at p₁ o [] (sym (append-nil o)) m z (rw (three, ← t) second)) refl

-- an answer's length is what code gives, or 0
pub written-length : (r : Result ℕ CodeRefusal) → result_unwrap_or r 0 ≡ (written r).length
written-length (Ok n) = refl
written-length (Err r) = refl
