-- The round trip, for every form: what is told in a report frame is read back, element by element and in whole frames.
-- Assumes nothing.
use Rattle.std.proofs.Common.{ℕ, ◌+◌, ◌-◌, ◌≤◌, ◌<◌, ◌≡◌, refl, sym, ap, ◌∙◌, Bool, true, false, List, [], ◌∷◌, ◌++◌, map, append_assoc, append-nil, eqb, ltb, length, get_or, drop, length-append, le-ltb, ne_eqb, eq-eqb, arith}
use Rattle.std.proofs.Math.Option.{some}
use Rattle.std.proofs.Math.ListN.{length-map}
use Rattle.std.proofs.lemmas.List.{map-append}
use Rattle.laws.specs.Members.{All}
use Rattle.laws.specs.Choice.{when◌then◌else◌}
use Rattle.laws.specs.Buffers.{pieces}
use Rattle.laws.proofs.Walk.{Rest, start, again, done, go_on, stop_end}
use Rattle.laws.proofs.Parts.{stands_at, stands-first, stands-length, stands-behind}
use Rattle.laws.proofs.Pieces.{Each, each_all, along}
use Rattle.octets.specs.declared.numbers.Kind.{Kind}
use Rattle.octets.specs.declared.numbers.Kind.TheVariants.{Event, Diagnostic}
use Rattle.octets.specs.Numbers.{category, report_action, report_id, longest_frame}
use Rattle.octets.specs.Refusals.{no_refusal}
use Rattle.octets.specs.Fields.{octets_at}
use Rattle.octets.specs.Addresses.{is_group}
use Rattle.octets.specs.Times.{good_time, time_at}
use Rattle.octets.specs.Elements.{framed, Subelement, subelements}
use Rattle.octets.proofs.ElementLaws.{piece_stands}
use Rattle.octets.proofs.PlaceLaws.{octets_stand}
use Rattle.octets.proofs.FrameLaws.{head-accepted, head_kind}
use Rattle.subelements.specs.Subelements.{tables, no_filter, whole_step, subelement_step, walk, Subelements}
use Rattle.subelements.proofs.Tables.{no_length}
use Rattle.subelements.specs.Subelements.{more_subelements as more_subs}
use Rattle.events.specs.Times.{is_form, time_length, draft, published_fields}
use Rattle.events.specs.Log.{time_of}
use Rattle.events.specs.Loggings.{event_type, event_times, event_body, good_rsn_element, entry_with, Logging, entry_for, EventLengths}
use Rattle.events.proofs.LoggingLaws.{time-length, body_back}
use Rattle.reports.specs.Reports.{report_element, event_element}
use Rattle.report_reader.specs.Decoders.{ReportedEvent}
use Rattle.report_reader.specs.Reader.{plain_element, logged_element, found_step, plain_step, logged_step, report_length, is_event_length, good_time_at, typed_step, event_step, walked_step, diagnostic_step, own_report_step, step_at, element_read, report_of, read_report, reading, gathered, unread, read_step, read_elements}
use Rattle.report_reader.specs.Contents.{Content, status_only, logged_event, kept_unread, with_subelements, Valid, content_octets, content_frame, content_read, ReportRoundTrip}
use Rattle.report_reader.proofs.DecodersBack.{decoded_back, typed, length-fits}
use Rattle.report_reader.proofs.Laws.{time_least, short-event}

-- ---- subelements that are walked for their edges

at_subs : ℕ → ℕ → Subelements
at_subs at n = record { refusal = no_refusal; at = at; count = n; filter = no_filter }

sub_passes : (s : List ℕ) (end at n id : ℕ) (b r : List ℕ) → drop at s ≡ framed id b ++ r → at + 2 + length b ≤ end → subelement_step s tables end (at_subs at n) ≡ at_subs (at + 2 + length b) (n + 1)
unfolding subelement_step whole_step when◌then◌else◌ at_subs
sub_passes s end at n id b r h fits =
    rw (piece_stands s at end id b r h fits, ne_eqb (at + 2 + length b) 0 (λ z. absurd (omega arith)), no_length tables (get_or s at 0) (get_or s (at + 2) 0) refl)

module _ (s : List ℕ) (end : ℕ) (whole : Subelements) where
  abbrev SubsLeft : ℕ → List Subelement → Type 0
  SubsLeft at front = Rest (more_subs end) (subelement_step s tables end) whole (end - at) (at_subs at (length front))

  sub_left : (front : List Subelement) (p : Subelement) (at : ℕ) (r : List ℕ) → Unit {0} → drop at s ≡ framed p.id p.octets ++ r → at + length (framed p.id p.octets) ≤ end
      → SubsLeft at front → SubsLeft (at + length (framed p.id p.octets)) (front ++ (p ∷ []))
  unfolding at_subs
  sub_left front p at r fine h fits left =
      let m : at + 2 + length p.octets ≡ at + length (framed p.id p.octets) = omega arith in
      let n : length front + 1 ≡ length (front ++ (p ∷ [])) = sym (length-append front (p ∷ [])) in
      again _ left (go_on 0 at end refl (omega arith)) (omega arith)
      (sym (sub_passes s end at (length front) p.id p.octets r h (omega arith) ∙ rw (m, n)))

all_fine : {P : Type 0} (front ps : List P) → Each (λ _ _. Unit {0}) front ps
unfolding Each
all_fine front [] = tt
all_fine front (p ∷ ps) = (tt, all_fine (front ++ (p ∷ [])) ps)

subelements_back : (s : List ℕ) (at end : ℕ) (ps : List Subelement) (r : List ℕ) → drop at s ≡ subelements ps ++ r → at + length (subelements ps) ≡ end → walk s tables at end ≡ at_subs end (length ps)
unfolding walk subelements at_subs
subelements_back s at end ps r h ends =
    sym (done
    (along (λ _ p. framed p.id p.octets) s end (λ _ _. Unit {0}) (SubsLeft s end (walk s tables at end)) (sub_left s end (walk s tables at end)) ps [] at 0 r refl (all_fine [] ps) h ends
    (start _ _ end _ _ (omega arith)))
    (stop_end 0 end end refl (omega arith)))

-- ---- an element that stands at a position

module _ (form : ℕ) (s : List ℕ) (kind : Kind) (at token ty status : ℕ) (rest r : List ℕ) (h : drop at s ≡ report_element kind token ty status rest ++ r) where
  abbrev o : List ℕ
  o = report_element kind token ty status rest

  abbrev body : List ℕ
  body = token ∷ ty ∷ status ∷ rest

  rest_there : drop (at + 5) s ≡ rest ++ r
  unfolding report_element
  rest_there = stands-behind s at (report_id kind ∷ length body ∷ token ∷ ty ∷ status ∷ []) (rest ++ r) h (at + 5) refl

  behind_there : octets_at s (at + 5) (length rest) ≡ rest
  behind_there = octets_stand s (at + 5) (length rest) rest r refl rest_there

  token_there : get_or s (at + 2) 0 ≡ token
  unfolding report_element
  token_there = stands_at s at o r h 2 0

  pub ty_there : get_or s (at + 3) 0 ≡ ty
  unfolding report_element
  ty_there = stands_at s at o r h 3 0

  pub status_there : get_or s (at + 4) 0 ≡ status
  unfolding report_element
  status_there = stands_at s at o r h 4 0

  end_there : at + 2 + length body ≡ at + length o
  unfolding report_element
  end_there = omega arith

  pub own_there : step_at form s kind at ≡ own_report_step form s kind at (length body)
  unfolding step_at report_element when◌then◌else◌
  own_there =
      let l = stands-length s at o r h (omega arith) in
      rw (
        piece_stands s at (length s) (report_id kind) body r h (omega arith),
        ne_eqb (at + 2 + length body) 0 (λ z. absurd (omega arith)),
        stands-first s at o r h 0,
        eq-eqb (report_id kind) (report_id kind) refl,
        stands_at s at o r h 1 0,
      )

  plain_there : (subs : ℕ) → plain_step s at (length body) subs ≡ found_step (plain_element token ty status (length rest) subs) (at + 5) (at + length o)
  unfolding plain_step
  plain_there subs =
      let m : length body - 3 ≡ length rest = omega arith in
      rw (token_there, ty_there, status_there, m, end_there)

-- ---- one element

module _ (form : ℕ) (s : List ℕ) (at : ℕ) where
  kept-event : (n : ℕ) → get_or s (at + 4) 0 ≡ 0 → tables ≤ get_or s (at + 3) 0 → event_step form s at n ≡ plain_step s at n 0
  unfolding event_step when◌then◌else◌
  kept-event n e other = rw (e, le-ltb (get_or s (at + 3) 0) tables other)

  logged-event : (n ty : ℕ) → (n ≡ 3 → ⊥) → get_or s (at + 4) 0 ≡ 0 → get_or s (at + 3) 0 ≡ ty → ltb ty tables ≡ true → is_event_length form s at n ty ≡ true → good_time_at form s (at + 5) ≡ true
      → event_step form s at n ≡ logged_step s at n
  unfolding event_step typed_step when◌then◌else◌
  logged-event n ty m e f t k good = rw (e, f, t, ne_eqb n 3 m, k, good)

  pub own_event : (n : ℕ) → 3 ≤ n → get_or s (at + 4) 0 ≤ 4 → own_report_step form s Event at n ≡ event_step form s at n
  unfolding own_report_step when◌then◌else◌
  own_event n few low = rw (le-ltb n 3 few, le-ltb 4 (get_or s (at + 4) 0) low)

-- what is found at a position: the step, and what it hands out
pub record Found (form : ℕ) (s : List ℕ) (kind : Kind) (at : ℕ) (x : Content kind) : Type 0 where
  pub step : step_at form s kind at ≡ found_step (content_read form kind x).element (at + 5) (at + length (content_octets form kind x))
  pub behind : octets_at s (at + 5) (content_read form kind x).element.length ≡ (content_read form kind x).behind
  pub decodes : element_read form (content_read form kind x).element (content_read form kind x).behind ≡ content_read form kind x

-- the time fields that stand at a position are good, where the nine octets are
time-good : (form : ℕ) (s : List ℕ) (at : ℕ) (x : Logging) (r : List ℕ) → EventLengths x.event → good_time (event_times x.event).time ≡ true
    → drop at s ≡ time_of form (entry_for x) ++ r → good_time_at form s at ≡ true
unfolding good_time_at entry_with when◌then◌else◌
time-good form s at x r w good = go (eqb form draft)
  where
    go : (b : Bool) → drop at s ≡ (when b then (event_times x.event).time else published_fields (event_times x.event)) ++ r → (when b then good_time (time_at s at) else true) ≡ true
    go true h = rw (octets_stand s at 9 (event_times x.event).time r w.times.time h) good
    go false h = refl

module _ (form : ℕ) (s : List ℕ) (at : ℕ) (r : List ℕ) where
  bare-event : (token ty status : ℕ) → status ≤ 4 → drop at s ≡ content_octets form Event (status_only token ty status) ++ r → Found form s Event at (status_only token ty status)
  unfolding content_octets octets_at when◌then◌else◌
  bare-event token ty status few h = record {
    step =
        own_there form s Event at token ty status [] r h
        ∙ own_event form s at 3 (omega arith) (omega (arith, status_there form s Event at token ty status [] r h))
        ∙ short-event form s at refl
        ∙ plain_there form s Event at token ty status [] r h 0;
    behind = refl;
    decodes = refl;
  }

  kept_back : (token ty : ℕ) (o : List ℕ) → tables ≤ ty → drop at s ≡ content_octets form Event (kept_unread token ty o) ++ r → Found form s Event at (kept_unread token ty o)
  unfolding content_octets when◌then◌else◌
  kept_back token ty o other h = record {
    step =
        own_there form s Event at token ty 0 o r h
        ∙ own_event form s at (length (token ∷ ty ∷ 0 ∷ o)) (omega arith) (omega (arith, status_there form s Event at token ty 0 o r h))
        ∙ kept-event form s at (length (token ∷ ty ∷ 0 ∷ o)) (status_there form s Event at token ty 0 o r h) (omega (arith, ty_there form s Event at token ty 0 o r h, other))
        ∙ plain_there form s Event at token ty 0 o r h 0;
    behind = behind_there form s Event at token ty 0 o r h;
    decodes = refl;
  }

  -- time fields, and a body
  logged_back : (token ty : ℕ) (time body : List ℕ) → length time ≡ time_length form → ltb ty tables ≡ true → drop at s ≡ report_element Event token ty 0 (time ++ body) ++ r
      → is_event_length form s at (report_length form (length body)) ty ≡ true → good_time_at form s (at + 5) ≡ true
      → step_at form s Event at ≡ found_step (logged_element token ty 0 (length (time ++ body))) (at + 5) (at + length (report_element Event token ty 0 (time ++ body)))
  unfolding logged_step
  logged_back token ty time body long tabled h fits good =
      let o : List ℕ = time ++ body in
      let l : length o ≡ time_length form + length body = length-append time body ∙ omega (arith, long) in
      let n : length (token ∷ ty ∷ 0 ∷ o) ≡ report_length form (length body) = omega (arith, l) in
      let m : length (token ∷ ty ∷ 0 ∷ o) - 3 ≡ length o = omega arith in
      own_there form s Event at token ty 0 o r h
      ∙ own_event form s at (length (token ∷ ty ∷ 0 ∷ o)) (omega arith) (omega (arith, status_there form s Event at token ty 0 o r h))
      ∙ logged-event form s at (length (token ∷ ty ∷ 0 ∷ o)) ty (λ z. absurd (omega (arith, z, l, time_least form))) (status_there form s Event at token ty 0 o r h) (ty_there form s Event at token ty 0 o r h) tabled (rw n fits) good
      ∙ rw (m, token_there form s Event at token ty 0 o r h, ty_there form s Event at token ty 0 o r h, status_there form s Event at token ty 0 o r h, end_there form s Event at token ty 0 o r h)

  event_back : (token : ℕ) (x : Logging) → EventLengths x.event → good_time (event_times x.event).time ≡ true → good_rsn_element x.event ≡ true
      → drop at s ≡ content_octets form Event (logged_event token x) ++ r → Found form s Event at (logged_event token x)
  unfolding content_octets event_element entry_with when◌then◌else◌
  event_back token x w timed good h =
      let ty : ℕ = event_type x.event in
      let time : List ℕ = time_of form (entry_for x) in
      let body : List ℕ = event_body x.reading x.event in
      let long = time-length form x.stamp x.reading x.event w in
      let there : drop at s ≡ report_element Event token ty 0 (time ++ body) ++ r =
      h ∙ ap (λ (b : List ℕ). report_element Event token ty 0 (time ++ b) ++ r) (body_back x.stamp x.reading x.event) in
      let time-there : drop (at + 5) s ≡ time ++ (body ++ r) = rest_there form s Event at token ty 0 (time ++ body) r there ∙ append_assoc time body r in
      let behind-time : drop (at + 5 + time_length form) s ≡ body ++ r = stands-behind s (at + 5) time (body ++ r) time-there (at + 5 + time_length form) (omega (arith, long)) in
      let fits = length-fits form s at r x.reading x.event w good behind-time (report_length form (length body)) refl in
      record {
        step =
            logged_back token ty time body long (typed x.event) there fits (time-good form s (at + 5) x (body ++ r) w timed time-there)
            ∙ ap (λ (b : List ℕ). found_step (logged_element token ty 0 (length (time ++ body))) (at + 5) (at + length (report_element Event token ty 0 (time ++ b)))) (sym (body_back x.stamp x.reading x.event));
        behind = behind_there form s Event at token ty 0 (time ++ body) r there;
        decodes = ap (λ (e : ReportedEvent). record { element = logged_element token ty 0 (length (time ++ body)); behind = time ++ body; event = some e }) (decoded_back form x.stamp x.reading x.event w);
      }

  listed_back : (token ty status : ℕ) (ps : List Subelement) → status ≤ 4 → drop at s ≡ report_element Diagnostic token ty status (subelements ps) ++ r
      → Found form s Diagnostic at (with_subelements token ty status ps)
  unfolding content_octets own_report_step diagnostic_step walked_step when◌then◌else◌ at_subs
  listed_back token ty status ps few h =
      let o : List ℕ = subelements ps in
      record {
        step =
            own_there form s Diagnostic at token ty status o r h
            ∙ rw (
              status_there form s Diagnostic at token ty status o r h,
              le-ltb (length (token ∷ ty ∷ status ∷ o)) 3 (omega arith),
              le-ltb 4 status few,
              subelements_back s (at + 5) (at + 2 + length (token ∷ ty ∷ status ∷ o)) ps r (rest_there form s Diagnostic at token ty status o r h) (omega arith),
            ) refl
            ∙ plain_there form s Diagnostic at token ty status o r h (length ps);
        behind = behind_there form s Diagnostic at token ty status o r h;
        decodes = refl;
      }

  bare_back : (kind : Kind) (token ty status : ℕ) → status ≤ 4 → drop at s ≡ content_octets form kind (status_only token ty status) ++ r → Found form s kind at (status_only token ty status)
  unfolding content_octets subelements pieces when◌then◌else◌
  bare_back Event token ty status few h = bare-event token ty status few h
  bare_back Diagnostic token ty status few h = let f = listed_back token ty status [] few h in record { step = f.step; behind = f.behind; decodes = refl }

  pub content_back : (kind : Kind) (x : Content kind) → Valid kind x → drop at s ≡ content_octets form kind x ++ r → Found form s kind at x
  unfolding content_octets
  content_back kind (status_only token ty status) may h = bare_back kind token ty status may h
  content_back kind (logged_event token x) may h = event_back token x may.0 may.1 may.2 h
  content_back kind (kept_unread token ty o) may h = kept_back token ty o may h
  content_back kind (with_subelements token ty status ps) may h = listed_back token ty status ps may h

-- ---- whole frames

pub report-of : (form : ℕ) → is_form form ≡ true → (kind : Kind) (dialog : ℕ) (o d : List ℕ) → is_group d ≡ false → length o + 3 ≤ longest_frame
    → let f = category ∷ report_action kind ∷ dialog ∷ o in read_report form d f ≡ report_of kind dialog (read_elements form f kind)
unfolding read_report when◌then◌else◌
report-of form is kind dialog o d single fits =
    rw (is, single, head_kind dialog o report_action refl kind, head-accepted dialog o (report_action kind) (omega arith))

pub content_some : (form : ℕ) (kind : Kind) (x : Content kind) → 0 < length (content_octets form kind x)
unfolding content_octets event_element report_element
content_some form kind (status_only token ty status) = omega arith
content_some form kind (logged_event token x) = omega arith
content_some form kind (kept_unread token ty o) = omega arith
content_some form kind (with_subelements token ty status ps) = omega arith

module _ (form : ℕ) (kind : Kind) (dialog : ℕ) (xs : List (Content kind)) where
  abbrev frame : List ℕ
  frame = content_frame form kind dialog xs

  abbrev Left : ℕ → List (Content kind) → Type 0
  Left at front = Rest (unread (length frame)) (read_step form frame kind) (read_elements form frame kind) (length frame - at) (reading no_refusal at (map (content_read form kind) front))

  left : (front : List (Content kind)) (x : Content kind) (at : ℕ) (r : List ℕ) → Valid kind x → drop at frame ≡ content_octets form kind x ++ r → at + length (content_octets form kind x) ≤ length frame
      → Left at front → Left (at + length (content_octets form kind x)) (front ++ (x ∷ []))
  unfolding read_step gathered when◌then◌else◌
  left front x at r may h fits l =
      let f = content_back form frame at r kind x may h in
      again _ l (go_on 0 at (length frame) refl (omega (arith, content_some form kind x))) (omega (arith, content_some form kind x))
      (rw (f.step, f.behind, f.decodes, map-append (content_read form kind) front (x ∷ [])))

  module _ (may : All (Valid kind) xs) where
    pub elements_back : read_elements form frame kind ≡ reading no_refusal (length frame) (map (content_read form kind) xs)
    unfolding read_elements
    elements_back =
        sym (done
        (along (λ _ x. content_octets form kind x) frame (length frame) (λ _ x. Valid kind x) Left left xs [] 3 0 [] refl (each_all (Valid kind) [] xs may) (sym (append-nil _)) (omega arith)
        (start _ _ (length frame) _ _ (omega arith)))
        (stop_end 0 (length frame) (length frame) refl (omega arith)))

    -- and the report has as many elements as were told
    report_back : is_form form ≡ true → (d : List ℕ) → is_group d ≡ false → length frame ≤ longest_frame
        → read_report form d frame ≡ record { refusal = no_refusal; kind = kind; dialog = dialog; count = length xs }
    unfolding report_of when◌then◌else◌
    report_back is d single fits =
        let o : List ℕ = pieces (λ _ x. content_octets form kind x) 0 xs in
        report-of form is kind dialog o d single (omega arith) ∙ rw (elements_back, length-map xs (content_read form kind))

-- What is told in a frame is read back of it.
pub report_round_trip : ReportRoundTrip
report_round_trip form is kind dialog xs may fits d single =
    record { report = report_back form kind dialog xs may is d single fits; elements = elements_back form kind dialog xs may }
