-- What a reader told one form makes of the other: no length is one of both forms, so every event is refused; and all else is read the same.
-- Assumes nothing.
use Rattle.std.proofs.Common.{ℕ, suc, ◌+◌, ◌-◌, ◌*◌, ◌≤◌, ◌≡◌, refl, sym, ap, ◌∙◌, Bool, true, false, ◌||◌, List, [], ◌∷◌, ◌++◌, map, append_assoc, append-nil, arith, eqb, ltb, length, get_or, drop, length-append, eqb-true, leb-true, ne_eqb}
use Rattle.std.proofs.Math.Path.{fun_ext}
use Rattle.std.proofs.lemmas.List.{map-append}
use Rattle.std.proofs.lemmas.Bool.{eqb-false}
use Rattle.laws.specs.Choice.{when◌then◌else◌}
use Rattle.laws.specs.Members.{All, nil, also, any}
use Rattle.laws.specs.Buffers.{pieces}
use Rattle.laws.specs.Walk.{repeat_while}
use Rattle.laws.proofs.Choice.{either, never}
use Rattle.laws.proofs.Parts.{stands-behind}
use Rattle.laws.proofs.Walk.{Rest, start, last, again, done, go_on, stop_refused, stop_end}
use Rattle.octets.specs.declared.numbers.Kind.{Kind}
use Rattle.octets.specs.declared.numbers.Kind.TheVariants.{Event, Diagnostic}
use Rattle.octets.specs.Refusals.{refused, no_refusal, bad_report_body}
use Rattle.subelements.specs.Subelements.{tables, length_of, walk}
use Rattle.units.specs.Time.{age, tus_of}
use Rattle.events.specs.Times.{draft, draft_length, published_length, time_length}
use Rattle.events.specs.Log.{time_of}
use Rattle.events.specs.RsnaEvents.{method_length, rsn_length, rsna_length}
use Rattle.events.specs.Transitions.{transition_length}
use Rattle.events.specs.PeerLinks.{peer_link_length}
use Rattle.events.specs.Loggings.{transition, rsna, peer_link, event_type, event_body, entry_with, entry_for}
use Rattle.events.proofs.TransitionLaws.{body_length}
use Rattle.events.proofs.RsnaLaws.{rsna-whole}
use Rattle.events.proofs.PeerLinkLaws.{peer-link-length}
use Rattle.events.proofs.LoggingLaws.{time-length, body_back}
use Rattle.reports.specs.Reports.{report_element, event_element}
use Rattle.report_reader.specs.Reader.{refused_step, plain_step, report_length, is_event_length, typed_step, event_step, walked_step, diagnostic_step, own_report_step, step_at, Reading, reading, gathered, unread, read_step, read_elements, report_of, Step, Report}
use Rattle.report_reader.specs.Contents.{Content, status_only, logged_event, kept_unread, with_subelements, Valid, content_octets, content_frame, content_read}
use Rattle.report_reader.specs.Forms.{Differ, LengthsDiffer, OtherFormRefused, NoEvent, OtherFormNeverShown, tells_event, OtherFrameRefused, SameInBothForms}
use Rattle.report_reader.proofs.Laws.{time_least}
use Rattle.report_reader.proofs.DecodersBack.{typed}
use Rattle.report_reader.proofs.RoundTrip.{ty_there, status_there, own_there, own_event, content_back, content_some, report-of, elements_back}

-- ---- lengths: each field of two lengths has one of them

record OneOf (least more n : ℕ) : Type 0 where
  which : ℕ
  few : which ≤ 1
  is : n ≡ least + more * which

time_two : (form : ℕ) → OneOf 9 14 (time_length form)
time_two form = either (OneOf 9 14) _ _ _ (λ _. record { which = 0; few = omega arith; is = refl }) (λ _. record { which = 1; few = omega arith; is = refl })

method_two : (first : ℕ) → OneOf 1 7 (method_length first)
unfolding length_of
method_two first = either (OneOf 1 7) (eqb first 254) 8 1 (λ _. record { which = 1; few = omega arith; is = refl }) (λ _. record { which = 0; few = omega arith; is = refl })

rsn_two : (n : ℕ) → (eqb n 0 || eqb n rsn_length) ≡ true → OneOf 0 22 n
rsn_two n h = go (eqb n 0) (eqb n rsn_length) refl refl h
  where
    go : (x y : Bool) → eqb n 0 ≡ x → eqb n rsn_length ≡ y → (x || y) ≡ true → OneOf 0 22 n
    go true y p q e = record { which = 0; few = omega arith; is = eqb-true n 0 p }
    go false true p q e = record { which = 1; few = omega arith; is = eqb-true n rsn_length q }
    go false false p q e = never e

time_differs : (form told : ℕ) → Differ form told → time_length form ≡ time_length told → ⊥
unfolding when◌then◌else◌
time_differs form told d = go (eqb form draft) (eqb told draft) refl refl
  where
    go : (x y : Bool) → eqb form draft ≡ x → eqb told draft ≡ y → (when x then draft_length else published_length) ≡ (when y then draft_length else published_length) → ⊥
    go true true p q e = d.differ (eqb-true form 0 p ∙ sym (eqb-true told 0 q))
    go true false p q e = absurd (omega (arith, e))
    go false true p q e = absurd (omega (arith, e))
    go false false p q e =
        let same : form ≡ told = omega (arith, eqb-false form 0 p, eqb-false told 0 q, leb-true form 1 d.one, leb-true told 1 d.other) in
        d.differ same

-- a time, a method and an RSN element of each length
apart : {t u a b m k : ℕ} → OneOf 9 14 t → OneOf 9 14 u → (t ≡ u → ⊥) → OneOf 1 7 a → OneOf 1 7 b → OneOf 0 22 m → OneOf 0 22 k → t + a + m ≡ u + b + k → ⊥
apart t u differ a b m k e =
    absurd (omega (arith, t.few, t.is, u.few, u.is, differ, a.few, a.is, b.few, b.is, m.few, m.is, k.few, k.is, e))

pub lengths_differ : LengthsDiffer
unfolding is_event_length when◌then◌else◌
lengths_differ form told d now (transition t) w good s at =
    let l = body_length t (tus_of (age now t.departure.0)) w.fields in
    ne_eqb _ (report_length told transition_length) (λ e. time_differs form told d (omega (arith, e, l)))
lengths_differ form told d now (rsna a rsn) w good s at =
    let first : ℕ = get_or s (at + 5 + time_length told + 10) 0 in
    let l = rsna-whole a rsn w.fields in
    let n : ℕ = report_length form (length (event_body now (rsna a rsn))) in
    let no : (k : ℕ) → OneOf 0 22 k → n ≡ report_length told (rsna_length first + k) → ⊥ =
    λ k o e. apart (time_two form) (time_two told) (time_differs form told d) (method_two (get_or a.method 0 0)) (method_two first) (rsn_two (length rsn) good) o (omega (arith, e, l)) in
    rw (
      ne_eqb n (report_length told (rsna_length first)) (λ e. no 0 (record { which = 0; few = omega arith; is = refl }) (omega (arith, e))),
      ne_eqb n (report_length told (rsna_length first + rsn_length)) (no 22 (record { which = 1; few = omega arith; is = refl })),
    ) refl
lengths_differ form told d now (peer_link a) w good s at =
    let l = peer-link-length a w.fields in
    ne_eqb _ (report_length told peer_link_length) (λ e. time_differs form told d (omega (arith, e, l)))

-- ---- so an event of one form is refused by a reader told the other

typed_refused : (told : ℕ) (s : List ℕ) (at n ty : ℕ) → (n ≡ 3 → ⊥) → get_or s (at + 4) 0 ≡ 0 → get_or s (at + 3) 0 ≡ ty → ltb ty tables ≡ true → is_event_length told s at n ty ≡ false
    → event_step told s at n ≡ refused_step bad_report_body at
unfolding event_step typed_step when◌then◌else◌
typed_refused told s at n ty m e f t k = rw (e, f, t, ne_eqb n 3 m, k)

pub other-form-refused : OtherFormRefused
unfolding content_octets event_element entry_with
other-form-refused form told d token x (w, timed, good) s at r h =
    let ty : ℕ = event_type x.event in
    let time : List ℕ = time_of form (entry_for x) in
    let body : List ℕ = event_body x.reading x.event in
    let o : List ℕ = time ++ body in
    let there : drop at s ≡ report_element Event token ty 0 o ++ r =
    h ∙ ap (λ (b : List ℕ). report_element Event token ty 0 (time ++ b) ++ r) (body_back x.stamp x.reading x.event) in
    let l : length o ≡ time_length form + length body = length-append time body ∙ omega (arith, time-length form x.stamp x.reading x.event w) in
    let n : length (token ∷ ty ∷ 0 ∷ o) ≡ report_length form (length body) = omega (arith, l) in
    let status = status_there told s Event at token ty 0 o r there in
    own_there told s Event at token ty 0 o r there
    ∙ own_event told s at (length (token ∷ ty ∷ 0 ∷ o)) (omega arith) (omega (arith, status))
    ∙ typed_refused told s at (length (token ∷ ty ∷ 0 ∷ o)) ty (λ z. absurd (omega (arith, z, l, time_least form))) status (ty_there told s Event at token ty 0 o r there) (typed x.event)
    (rw n (lengths_differ form told d x.reading x.event w good s at))

-- ---- what tells no event is the same

same-octets : (form told : ℕ) (kind : Kind) (x : Content kind) → tells_event x ≡ false → content_octets form kind x ≡ content_octets told kind x
unfolding content_octets
same-octets form told kind (status_only token ty status) e = refl
same-octets form told kind (logged_event token x) e = never (sym e)
same-octets form told kind (kept_unread token ty o) e = refl
same-octets form told kind (with_subelements token ty status ps) e = refl

same_read : (form told : ℕ) (kind : Kind) (x : Content kind) → tells_event x ≡ false → content_read form kind x ≡ content_read told kind x
same_read form told kind (status_only token ty status) e = refl
same_read form told kind (logged_event token x) e = never (sym e)
same_read form told kind (kept_unread token ty o) e = refl
same_read form told kind (with_subelements token ty status ps) e = refl

or_none : (a b : Bool) → (a || b) ≡ false → (a ≡ false) × (b ≡ false)
or_none true b e = never (sym e)
or_none false b e = (refl, e)

module _ (form told : ℕ) (kind : Kind) where
  same-pieces : (i : ℕ) (xs : List (Content kind)) → any tells_event xs ≡ false → pieces (λ _ x. content_octets form kind x) i xs ≡ pieces (λ _ x. content_octets told kind x) i xs
  unfolding pieces any
  same-pieces i [] e = refl
  same-pieces i (x ∷ xs) e =
      let f = or_none (tells_event x) (any tells_event xs) e in
      rw (same-octets form told kind x f.0, same-pieces (suc i) xs f.1)

  same_reads : (xs : List (Content kind)) → any tells_event xs ≡ false → map (content_read form kind) xs ≡ map (content_read told kind) xs
  unfolding any
  same_reads [] e = refl
  same_reads (x ∷ xs) e =
      let f = or_none (tells_event x) (any tells_event xs) e in
      rw (same_read form told kind x f.0, same_reads xs f.1)

  same-frames : (dialog : ℕ) (xs : List (Content kind)) → any tells_event xs ≡ false → content_frame form kind dialog xs ≡ content_frame told kind dialog xs
  same-frames dialog xs e = rw (same-pieces 0 xs e)

  same-elements : (dialog : ℕ) (xs : List (Content kind)) → All (Valid kind) xs → any tells_event xs ≡ false
      → read_elements form (content_frame form kind dialog xs) kind ≡ read_elements told (content_frame form kind dialog xs) kind
  same-elements dialog xs may e =
      let f = same-frames dialog xs e in
      elements_back form kind dialog xs may
      ∙ ap (λ (o : List ℕ). reading no_refusal (length o) (map (content_read form kind) xs)) f
      ∙ ap (reading no_refusal (length (content_frame told kind dialog xs))) (same_reads xs e)
      ∙ sym (ap (λ (o : List ℕ). read_elements told o kind) f ∙ elements_back told kind dialog xs may)

-- ---- a diagnostic holds no event

unlogged : (s : List ℕ) (at : ℕ) → (step_at 0 s Diagnostic at).element.logged ≡ false
unfolding step_at own_report_step diagnostic_step walked_step plain_step
unlogged s at =
    let P : Step → Type 0 = λ (t : Step). t.element.logged ≡ false in
    let w = walk s tables (at + 5) (at + 2 + get_or s (at + 1) 0) in
    either P _ _ _ (λ _. refl)
    (λ _. either P _ _ _ (λ _. refl)
    (λ _. either P _ _ _ (λ _. refl)
    (λ _. either P _ _ _ (λ _. refl) (λ _. either P _ _ _ (λ _. refl) (λ _. refl)))))

module _ (form told : ℕ) (s : List ℕ) where
  same-gathered : (w : Reading) (t : Step) → t.element.logged ≡ false → gathered form s w t ≡ gathered told s w t
  unfolding gathered when◌then◌else◌
  same-gathered w t e = rw e

  same_step : (w : Reading) → read_step form s Diagnostic w ≡ read_step told s Diagnostic w
  unfolding read_step step_at own_report_step
  same_step w = same-gathered w (step_at form s Diagnostic w.at) (unlogged s w.at)

  same-diagnostics : read_elements form s Diagnostic ≡ read_elements told s Diagnostic
  unfolding read_elements
  same-diagnostics = ap (λ (step : Reading → Reading). repeat_while (length s) (unread (length s)) step (reading no_refusal 3 [])) (fun_ext same_step)

pub same_in_both_forms : SameInBothForms
same_in_both_forms form told = record {
  diagnostics = same-diagnostics form told;
  octets = same-octets form told;
  frames = same-frames form told;
  events = same-elements form told Event;
}

-- ---- a whole frame of one form, by a reader told the other: it reads on up to the first event, and refuses that

data Outcome (whole same : Reading) (tells : Bool) : Type 0 where
  is_same : tells ≡ false → whole ≡ same → Outcome whole same tells
  is-refused : (at : ℕ) → tells ≡ true → whole ≡ reading (refused bad_report_body at) 0 [] → Outcome whole same tells

module _ (form told : ℕ) (d : Differ form told) (dialog : ℕ) (xs : List (Content Event)) where
  abbrev frame : List ℕ
  frame = content_frame form Event dialog xs

  abbrev whole : Reading
  whole = read_elements told frame Event

  abbrev Left : ℕ → List (Content Event) → Type 0
  Left at front = Rest (unread (length frame)) (read_step told frame Event) whole (length frame - at) (reading no_refusal at (map (content_read told Event) front))

  module _ (front : List (Content Event)) (x : Content Event) (at : ℕ) (r : List ℕ) (may : Valid Event x) (h : drop at frame ≡ content_octets form Event x ++ r)
      (fits : at + length (content_octets form Event x) ≤ length frame) (left : Left at front) where
    more : unread (length frame) (reading no_refusal at (map (content_read told Event) front)) ≡ true
    more = go_on 0 at (length frame) refl (omega (arith, content_some form Event x))

    passed : tells_event x ≡ false → Left (at + length (content_octets form Event x)) (front ++ (x ∷ []))
    unfolding read_step gathered when◌then◌else◌
    passed e =
        let o = same-octets form told Event x e in
        let f = content_back told frame at r Event x may (h ∙ ap (λ (l : List ℕ). l ++ r) o) in
        again _ left more (omega (arith, content_some form Event x))
        (rw (f.step, f.behind, f.decodes, map-append (content_read told Event) front (x ∷ []), o))

    stopped : step_at told frame Event at ≡ refused_step bad_report_body at → whole ≡ reading (refused bad_report_body at) 0 []
    unfolding read_step gathered when◌then◌else◌
    stopped e =
        sym (last left more (omega (arith, content_some form Event x)) (rw e) (stop_refused bad_report_body 0 (length frame) (λ z. absurd (omega (arith, z)))))

  refuses : (x : Content Event) (at : ℕ) (r : List ℕ) → Valid Event x → drop at frame ≡ content_octets form Event x ++ r → tells_event x ≡ true
      → step_at told frame Event at ≡ refused_step bad_report_body at
  refuses (status_only token ty status) at r may h e = never e
  refuses (logged_event token x) at r may h e = other-form-refused form told d token x may frame at r h
  refuses (kept_unread token ty o) at r may h e = never e

  abbrev after : List (Content Event) → Reading
  after front = reading no_refusal (length frame) (map (content_read told Event) front)

  turn : (b : Bool) (x : Content Event) (front ps : List (Content Event)) → tells_event x ≡ b
      → (tells_event x ≡ true → (any tells_event (x ∷ ps) ≡ true) → Outcome whole (after (front ++ (x ∷ ps))) (any tells_event (x ∷ ps)))
      → (tells_event x ≡ false → Outcome whole (after ((front ++ (x ∷ [])) ++ ps)) (any tells_event ps))
      → Outcome whole (after (front ++ (x ∷ ps))) (any tells_event (x ∷ ps))
  unfolding any
  turn true x front ps e stop on = stop e (rw e refl)
  turn false x front ps e stop on = rw e (rw append_assoc at (on e))

  outcome : (ps front : List (Content Event)) (at i : ℕ) → All (Valid Event) ps → drop at frame ≡ pieces (λ _ x. content_octets form Event x) i ps
      → at + length (pieces (λ _ x. content_octets form Event x) i ps) ≡ length frame → Left at front → Outcome whole (after (front ++ ps)) (any tells_event ps)
  unfolding pieces any
  outcome [] front at i may h ends left =
      let z : at ≡ length frame = omega arith in
      is_same refl (sym (done left (stop_end 0 at (length frame) refl (omega arith))) ∙ rw (append-nil front, z))
  outcome (x ∷ ps) front at i (also may rest) h ends left =
      let o : List ℕ = content_octets form Event x in
      let r : List ℕ = pieces (λ _ x. content_octets form Event x) (suc i) ps in
      let l : length (o ++ r) ≡ length o + length r = length-append o r in
      let fits : at + length o ≤ length frame = omega (arith, l) in
      turn (tells_event x) x front ps refl
      (λ e t. is-refused at t (stopped front x at r may h fits left (refuses x at r may h e)))
      (λ e. outcome ps (front ++ (x ∷ [])) (at + length o) (suc i) rest (stands-behind frame at o r h (at + length o) refl) (omega (arith, l)) (passed front x at r may h fits left e))

  read-other : All (Valid Event) xs → Outcome whole (after xs) (any tells_event xs)
  unfolding read_elements
  read-other may = outcome xs [] 3 0 may refl (omega arith) (start _ _ (length frame) _ _ (omega arith))

-- what has no event told shows none
shows_none : (told : ℕ) (xs : List (Content Event)) → any tells_event xs ≡ false → All NoEvent (map (content_read told Event) xs)
unfolding any
shows_none told [] e = nil
shows_none told (status_only token ty status ∷ xs) e = also refl (shows_none told xs e)
shows_none told (logged_event token x ∷ xs) e = never (sym e)
shows_none told (kept_unread token ty o ∷ xs) e = also refl (shows_none told xs e)

pub other-form_never_shown : OtherFormNeverShown
other-form_never_shown form told d dialog xs may = go (read-other form told d dialog xs may)
  where
    go : {w : Reading} → Outcome w (after form told d dialog xs xs) (any tells_event xs) → All NoEvent w.elements
    go (is_same e p) = rw p (shows_none told xs e)
    go (is-refused at e p) = rw p nil

pub other-frame-refused : OtherFrameRefused
unfolding report_of when◌then◌else◌
other-frame-refused form told d dialog xs may tells fits a single =
    let o : List ℕ = pieces (λ _ x. content_octets form Event x) 0 xs in
    ap (λ (r : Report). r.refusal.number) (report-of told d.other Event dialog o a single (omega arith)) ∙ go (read-other form told d dialog xs may)
  where
    go : {w : Reading} → Outcome w (after form told d dialog xs xs) (any tells_event xs) → (report_of Event dialog w).refusal.number ≡ bad_report_body
    go (is_same e p) = never (sym e ∙ tells)
    go (is-refused at e p) = rw p refl
