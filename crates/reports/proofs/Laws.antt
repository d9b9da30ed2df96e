-- Laws of report elements: their lengths, and their parts.
-- Assumes nothing.
use Rattle.std.proofs.Common.{ℕ, suc, ◌+◌, ◌≤◌, ◌<◌, min, ◌≡◌, refl, sym, ap, ◌∙◌, Bool, true, false, leb, List, [], ◌++◌, append-nil, arith, length, take, length-append, length-take, le-leb, leb-true, leb-false}
use Rattle.laws.proofs.Arrays.{take_min}
use Rattle.laws.specs.Choice.{when◌then◌else◌}
use Rattle.laws.specs.Buffers.{onto, WrittenBuffer, wrote, put_front, put_at}
use Rattle.laws.proofs.Buffers.{Putting, putting_start, putting_at, putting_done, putting_end, put_front-fits, put_front-short}
use Rattle.octets.specs.declared.numbers.Kind.{Kind}
use Rattle.octets.specs.declared.numbers.Kind.TheVariants.{Event}
use Rattle.octets.specs.Numbers.{successful}
use Rattle.events.specs.declared.Entry.{Entry}
use Rattle.events.specs.Times.{time_length}
use Rattle.events.specs.Log.{body_capacity, body_of, time_of}
use Rattle.std.proofs.lemmas.Bool.{lt-leb}
use Rattle.std.specs.Prelude.{Some, None}
use Rattle.reports.specs.Reports.{report_element, event_element, report_head, fitting, PutWhole}

-- ---- general: octets that do not fit, that do; all has been written

pub put_short : {o s : List ℕ} → length s < length o → PutWhole o s None s
unfolding fitting when◌then◌else◌
put_short {o} {s} h = record { length = rw (lt-leb (length o) (length s) h); octets = rw (put_front-short o s h) }

pub put_long : {o s s' : List ℕ} {n : ℕ} → length o ≤ length s → wrote n s' ≡ put_front o s → PutWhole o s (Some n) s'
unfolding fitting when◌then◌else◌
put_long {o} {s} h p =
    let is = p ∙ put_front-fits o s h in
    record {
      length = rw (le-leb (length o) (length s) h) (ap (λ (w : WrittenBuffer). Some w.answer) is);
      octets = ap (λ (w : WrittenBuffer). w.octets) p;
    }

-- what their writer's answer says
pub put_nothing : {o s y : List ℕ} → PutWhole o s None y → (length s < length o) × (y ≡ s)
unfolding fitting when◌then◌else◌
put_nothing {o} {s} {y} w = go (leb (length o) (length s)) refl w.length
  where
    go : (b : Bool) → leb (length o) (length s) ≡ b → None ≡ (when b then Some (length o) else None) → (length s < length o) × (y ≡ s)
    go true h e = let z : ◌≡◌ {A = ℕ} 0 1 = cc in absurd (omega arith)
    go false h e =
        let short = leb-false (length o) (length s) h in
        (short, w.octets ∙ ap (λ (w : WrittenBuffer). w.octets) (put_front-short o s short))

pub put_all : {o s y : List ℕ} {n : ℕ} → PutWhole o s (Some n) y → (n ≡ length o) × (length o ≤ length s) × (y ≡ onto o s)
unfolding fitting when◌then◌else◌
put_all {o} {s} {y} {n} w = go (leb (length o) (length s)) refl w.length
  where
    go : (b : Bool) → leb (length o) (length s) ≡ b → Some n ≡ (when b then Some (length o) else None) → (n ≡ length o) × (length o ≤ length s) × (y ≡ onto o s)
    go true h e =
        let fits = leb-true (length o) (length s) h in
        let z : n ≡ length o = cc in
        (z, fits, w.octets ∙ ap (λ (w : WrittenBuffer). w.octets) (put_front-fits o s fits))
    go false h e = let z : ◌≡◌ {A = ℕ} 0 1 = cc in absurd (omega arith)

pub put_whole : {whole s y : List ℕ} {n : ℕ} → Putting whole s y n [] → wrote n y ≡ put_front whole s
put_whole {whole} {s} {y} {n} p =
    rw (putting_end p refl, putting_done p refl) (sym (put_front-fits whole s p.fits))

-- writers of parts, one behind the other, write the whole
module _ (whole s : List ℕ) (fits : length whole ≤ length s) (a r : List ℕ) (split : whole ≡ a ++ r) (n : ℕ) (y : List ℕ) (put : wrote n y ≡ put_at a 0 s) where
  first_part : Putting whole s y n r
  first_part = putting_at (putting_start whole s fits) a r split n y put

  pub put_two : (m : ℕ) (z : List ℕ) → wrote m z ≡ put_at r n y → wrote m z ≡ put_front whole s
  put_two m z p = put_whole (putting_at first_part r [] (sym (append-nil r)) m z p)

  pub put_three : (b d : List ℕ) → r ≡ b ++ d → (m : ℕ) (z : List ℕ) → wrote m z ≡ put_at b n y → (k : ℕ) (x : List ℕ) → wrote k x ≡ put_at d m z → wrote k x ≡ put_front whole s
  put_three b d e m z p k x q = put_whole (putting_at (putting_at first_part b d e m z p) d [] (sym (append-nil d)) k x q)

-- ---- the parts of an element

module _ (kind : Kind) (token ty status : ℕ) (rest : List ℕ) where
  pub element_parts : report_element kind token ty status rest ≡ report_head kind token ty status (length rest) ++ rest
  unfolding report_element
  element_parts = let n : suc (suc (suc (length rest))) ≡ 3 + length rest = omega arith in rw n

  pub element-length : length (report_element kind token ty status rest) ≡ 5 + length rest
  unfolding report_element
  element-length = omega arith

module _ (form token : ℕ) (entry : Entry) (t : length (time_of form entry) ≡ time_length form) (b : length entry.body ≡ body_capacity) (n : ℕ) (m : n ≡ min entry.length body_capacity) where
  pub body_part : take n entry.body ≡ body_of entry
  body_part = ap (λ (k : ℕ). take k entry.body) m ∙ take_min entry.length body_capacity entry.body b

  rest-length : length (time_of form entry ++ take n entry.body) ≡ time_length form + n
  rest-length = length-append (time_of form entry) (take n entry.body) ∙ omega (arith, length-take n entry.body)

  event_parts : event_element form token entry ≡ report_head Event token entry.ty successful (time_length form + n) ++ (time_of form entry ++ take n entry.body)
  unfolding event_element
  event_parts = rw (← body_part) (element_parts Event token entry.ty successful (time_of form entry ++ take n entry.body) ∙ rw rest-length)

  pub event-length : length (event_element form token entry) ≡ 5 + (time_length form + n)
  unfolding event_element
  event-length = rw (← body_part) (element-length Event token entry.ty successful (time_of form entry ++ take n entry.body) ∙ omega (arith, rest-length))

  -- head, time fields and body, one behind the other
  pub put-event_parts : (s head : List ℕ) → length (event_element form token entry) ≤ length s → head ≡ report_head Event token entry.ty successful (time_length form + n)
      → (i : ℕ) (y : List ℕ) → wrote i y ≡ put_at head 0 s → (j : ℕ) (z : List ℕ) → wrote j z ≡ put_at (time_of form entry) i y
      → (k : ℕ) (x : List ℕ) → wrote k x ≡ put_at (take n entry.body) j z → wrote k x ≡ put_front (event_element form token entry) s
  put-event_parts s head fits is i y p j z q k x r =
      put_three _ s fits head (time_of form entry ++ take n entry.body)
      (event_parts ∙ ap (λ l. l ++ (time_of form entry ++ take n entry.body)) (sym is)) i y p (time_of form entry) (take n entry.body) refl j z q k x r
