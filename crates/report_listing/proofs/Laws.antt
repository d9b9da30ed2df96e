-- Laws of the listing: its time fields, the lines of the elements that the cursor hands out, and how long they are at most; what is read of a frame that is not refused.
-- Assumes nothing.
use Rattle.std.proofs.lemmas.Bool.{eqb-false, not-true, not-false}
use Rattle.laws.specs.Choice.{when◌then◌else◌}
use Rattle.laws.specs.Buffers.{pieces}
use Rattle.laws.proofs.Choice.{either}
use Rattle.laws.proofs.Pieces.{pieces_snoc}
use Rattle.laws.proofs.Walk.{Rest, start, done, last, again, go_on, stop_refused, stop_end}
use Rattle.octets.specs.declared.numbers.Kind.{Kind}
use Rattle.std.proofs.Common.{Result, Ok, Err, ℕ, ◌+◌, ◌*◌, ◌-◌, ◌≤◌, ◌<◌, ◌≡◌, refl, ap, ◌∙◌, Bool, true, false, List, [], ◌∷◌, ◌++◌, append-nil, arith, length, length-append, eqb, eq-eqb, ne_eqb, eqb-true}
use Rattle.std.specs.Result.{is_ok}
use Rattle.octets.specs.declared.refusals.Refusal.{Refusal as CodeRefusal}
use Rattle.octets.specs.Refusals.{no_refusal}
use Rattle.octets.proofs.RefusalLaws.{some_number}
use Rattle.report_reader.specs.declared.Step.{Step as CodeStep}
use Rattle.report_reader.specs.Reader.{step_read}
use Rattle.octets.specs.Numbers.{report_action, longest_frame}
use Rattle.octets.specs.Frames.{frame_cause}
use Rattle.octets.proofs.FrameLaws.{head-length}
use Rattle.texts.specs.Text.{text, decimal, Puts, put_whole}
use Rattle.texts.proofs.NumberLaws.{decimal-length}
use Rattle.texts.proofs.PutLaws.{one, at_most, nothing, both}
use Rattle.events.specs.Times.{is_form}
use Rattle.report_reader.specs.Reader.{step_at, cursor_step, report_of, report_kind, read_report, ElementRead, element_read_at, Reading, reading, gathered, unread, read_step, read_elements, Step, Report}
use Rattle.report_reader.proofs.Laws.{Forward, goes_on, Extent, found_extent, cursor_told}
use Rattle.report_listing.specs.Listing.{time_field, report_element_line, report_element_lines}
use Rattle.report_listing.specs.Internal.{unread_most, tail_most, report_line_most, lines_most, step_line, step_most}

-- ---- a time field

module _ (room : ℕ) (front : List ℕ) (digits ones k : ℕ) (s y : List ℕ) where
  pub time_unknown : k ≡ ones → y ≡ put_whole room (front ++ text "?") s → Puts room (length front + 5) (time_field front digits ones k) s y
  unfolding time_field when◌then◌else◌
  time_unknown e does = rw (eq-eqb k ones e) (at_most (length front + 5) (omega (arith, length-append front (text "?"))) (one does))

  pub time_known : (k ≡ ones → ⊥) → k < 65536 → digits ≤ 5 → y ≡ put_whole room (front ++ decimal digits k) s → Puts room (length front + 5) (time_field front digits ones k) s y
  unfolding time_field when◌then◌else◌
  time_known e small few does =
      rw (ne_eqb k ones e) (at_most (length front + 5) (omega (arith, length-append front (decimal digits k), decimal-length 5 digits k (omega arith) (omega arith) few)) (one does))

-- ---- how long a line is at most: 14 octets for each octet that its element takes of the frame

pub tail-most : (b : Bool) → unread_most ≤ tail_most b
tail-most true = omega arith
tail-most false = omega arith

line-most : (s : List ℕ) (cur : ℕ) (t : Step) → Extent s cur t → report_line_most t.element.logged ≤ 14 * (t.next.at - cur)
line-most s cur t x = go t.element.logged x.event
  where
    go : (b : Bool) → (b ≡ true → cur + 26 ≤ t.next.at) → report_line_most b ≤ 14 * (t.next.at - cur)
    go true f = omega (arith, f refl)
    go false f = omega (arith, x.least)

-- ---- the loop over a cursor: es are handed out and written, what is left of the walk gives the rest

pub record Listed (room form : ℕ) (s : List ℕ) (kind : Kind) (old new : List ℕ) (cur : ℕ) : Type 0 where
  pub es : List ElementRead
  pub rest : Rest (unread (length s)) (read_step form s kind) (read_elements form s kind) (length s - cur) (reading no_refusal cur es)
  pub front : 3 ≤ cur
  pub within : cur - 3 ≤ length s - 3
  pub puts : Puts room (lines_most cur) (report_element_lines form kind es) old new

pub listed_start : (room form : ℕ) (s : List ℕ) (kind : Kind) (old : List ℕ) → Listed room form s kind old old 3
unfolding read_elements pieces
listed_start room form s kind old = record {
  es = [];
  rest = start (unread (length s)) (read_step form s kind) (length s) (length s - 3) (reading no_refusal 3 []) (omega arith);
  front = omega arith;
  within = omega arith;
  puts = nothing room old;
}

module _ {room form : ℕ} {s : List ℕ} {kind : Kind} {old new : List ℕ} {cur : ℕ} (l : Listed room form s kind old new cur) (told : is_form form ≡ true)
    (fine : (read_elements form s kind).refusal.number ≡ 0) where
  pub listed_end : length s ≤ cur → Puts room (lines_most (length s)) (report_element_lines form kind (read_elements form s kind).elements) old new
  listed_end end =
      let e : reading no_refusal cur l.es ≡ read_elements form s kind = done l.rest (stop_end 0 cur (length s) refl end) in
      rw (← e) (at_most (lines_most (length s)) (omega (arith, l.within)) l.puts)

  module _ (inside : cur < length s) (t : Step) (is : t ≡ cursor_step form s kind cur) where
    stands : t ≡ step_at form s kind cur
    stands = is ∙ cursor_told form told s kind cur

    goes : unread (length s) (reading no_refusal cur l.es) ≡ true
    goes = go_on 0 cur (length s) refl inside

    -- no element of a frame that is not refused is
    pub accepted : t.refusal.number ≡ 0
    unfolding read_step gathered when◌then◌else◌
    accepted = go (eqb t.refusal.number 0) refl
      where
        go : (b : Bool) → eqb t.refusal.number 0 ≡ b → t.refusal.number ≡ 0
        go true e = eqb-true t.refusal.number 0 e
        go false e =
            let no = eqb-false t.refusal.number 0 e in
            let stops : reading t.refusal 0 [] ≡ read_step form s kind (reading no_refusal cur l.es) = rw (← stands, e) in
            let all = last l.rest goes (omega arith) stops (stop_refused t.refusal.number 0 (length s) no) in
            absurd (no (ap (λ (w : Reading). w.refusal.number) all ∙ fine))

    on : Forward s cur t
    on = goes_on form s kind cur t is accepted

    pub listed_next : {y : List ℕ} → Puts room (step_most t) (step_line form s kind t) new y → Listed room form s kind old y t.next.at
    unfolding read_step gathered step_line step_most when◌then◌else◌
    listed_next {y} q = go t.found refl
      where
        go : (b : Bool) → t.found ≡ b → Listed room form s kind old y t.next.at
        go true f =
            let x : ElementRead = element_read_at form s t in
            let e : reading no_refusal t.next.at (l.es ++ (x ∷ [])) ≡ read_step form s kind (reading no_refusal cur l.es) = rw (← stands, eq-eqb t.refusal.number 0 accepted, f) in
            let g = on in
            let p : Puts room (report_line_most t.element.logged) (report_element_line form kind x) new y = rw f at q in
            record {
              es = l.es ++ (x ∷ []);
              rest = again (length s - t.next.at) l.rest goes (omega (arith, g.on)) e;
              front = omega (arith, g.on, l.front);
              within = omega (arith, g.within);
              puts = rw (pieces_snoc (λ (r : ElementRead). report_element_line form kind r) 0 l.es x)
                  (at_most (lines_most t.next.at) (omega (arith, g.on, l.front, line-most s cur t (found_extent form s kind cur t is f))) (both l.puts p));
            }
        go false f =
            let e : reading no_refusal t.next.at l.es ≡ read_step form s kind (reading no_refusal cur l.es) = rw (← stands, eq-eqb t.refusal.number 0 accepted, f) in
            let g = on in
            let p : Puts room 0 [] new y = rw f at q in
            record {
              es = l.es;
              rest = again (length s - t.next.at) l.rest goes (omega (arith, g.on)) e;
              front = omega (arith, g.on, l.front);
              within = omega (arith, g.within);
              puts = rw append-nil at (at_most (lines_most t.next.at) (omega (arith, g.on)) (both l.puts p));
            }

-- ---- a frame that is not refused has at most 2,304 octets, and the cursor's walk over it is not refused either

pub record Readable (form : ℕ) (s : List ℕ) (kind : Kind) : Type 0 where
  pub told : is_form form ≡ true
  pub few : length s ≤ longest_frame
  pub fine : (read_elements form s kind).refusal.number ≡ 0

abbrev IsReadable : ℕ → List ℕ → Report → Type 0
IsReadable form s r = r.refusal.number ≡ 0 → Readable form s r.kind

read_readable : (form : ℕ) (destination s : List ℕ) → IsReadable form s (read_report form destination s)
unfolding read_report report_of
read_readable form destination s =
    let P : Report → Type 0 = IsReadable form s in
    let kind : Kind = report_kind s in
    either P _ _ _ (λ _ z. absurd (omega arith))
    (λ t. either P _ _ _ (λ _ z. absurd (omega arith))
    (λ _. either P _ _ _ (λ p z. absurd (eqb-false (frame_cause s (report_action kind)) 0 (not-true _ p) z))
    (λ p. let few = head-length s (report_action kind) (eqb-true (frame_cause s (report_action kind)) 0 (not-false _ p)) in
    either P _ _ _ (λ q z. absurd (eqb-false (read_elements form s kind).refusal.number 0 (not-true _ q) z))
    (λ q _. record { told = not-false _ t; few = few; fine = eqb-true (read_elements form s kind).refusal.number 0 (not-false _ q) }))))

pub readable : (form : ℕ) (destination s : List ℕ) (r : Report) → r ≡ read_report form destination s → IsReadable form s r
readable form destination s r is = rw is (read_readable form destination s)

-- a step that is not refused is one
pub step_ok : (r : Result CodeStep CodeRefusal) → (step_read r).refusal.number ≡ 0 → is_ok r ≡ true
step_ok (Ok t) e = refl
step_ok (Err r) e = absurd (some_number r.cause e)
