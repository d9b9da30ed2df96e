-- Laws of a buffer that is filled with a request's elements, for any kind of request. `Filling` is the invariant of every loop that does
-- it: what is written, and what filling the rest from here gives, are what filling the whole gives.
-- Assumes nothing.
use Rattle.std.proofs.Common.{ℕ, zero, suc, ◌+◌, ◌-◌, ◌≤◌, ◌<◌, ◌≡◌, refl, sym, ap, ◌∙◌, Bool, true, false, List, [], ◌∷◌, ◌++◌, append_assoc, append-nil, arith, length, take, drop, length-append, length-drop, take-append-drop, take_at, drop_at, length-take-le, le-leb}
use Rattle.std.proofs.Math.Option.{Option, none, some}
use Rattle.std.proofs.Math.Nat.{sub-zero}
use Rattle.std.proofs.lemmas.Bool.{lt-leb}
use Rattle.laws.proofs.Older.{put_mid}
use Rattle.laws.specs.Choice.{when◌then◌else◌}
use Rattle.laws.specs.Buffers.{onto, WrittenBuffer, put_at}
use Rattle.laws.proofs.Buffers.{length-onto, lent_length, lent, put_at-fits}
use Rattle.std.specs.Prelude.{Some, None}
use Rattle.reports.specs.Reports.{PutWhole}
use Rattle.reports.proofs.Laws.{put_nothing, put_all}
use Rattle.octets.specs.Numbers.{category}
use Rattle.model.proofs.FillLaws.{fill-fits}
use Rattle.model.specs.Fill.{Piece, nothing_more, before, fill_with, fill, next_frame}
use Rattle.model.specs.Stations.{room}
use Rattle.report_calls.specs.Internal.{is_none, FilledAs, FramedAs}

module _ {R : Type 0} (next : R → Option (Piece R)) where
  pub record Filling (q : R) (s buf : List ℕ) (at : ℕ) (r : R) : Type 0 where
    pub head : List ℕ
    pub fuel : ℕ
    pub ends : length head ≡ at
    pub room : at ≤ length s
    pub enough : length s - at ≤ fuel
    pub front : buf ≡ onto head s
    pub rest : fill next (length s) (length s) q ≡ before head (fill next fuel (length s - at) r)

  pub filling_start : (q : R) (s : List ℕ) → Filling q s s 0 q
  filling_start q s = record {
    head = [];
    fuel = length s;
    ends = refl;
    room = omega arith;
    enough = omega arith;
    front = refl;
    rest = ap (λ (n : ℕ). fill next (length s) n q) (sym (sub-zero (length s)));
  }

-- a part that comes back as it was leaves the whole as it was
part_same : (a k : ℕ) (xs ys : List ℕ) → ys ≡ take k (drop a xs) → put_mid a k xs ys ≡ xs
part_same a k xs ys e = rw (e, take-append-drop k (drop a xs)) (take-append-drop a xs)

module _ {R : Type 0} {next : R → Option (Piece R)} {q : R} {s buf : List ℕ} {at : ℕ} {r : R} (F : Filling next q s buf at r) where
  pub filling_length : length buf ≡ length s
  filling_length = ap length F.front ∙ length-onto F.head s (omega (arith, F.ends, F.room))

  -- the part that is lent has the room that is left
  pub filling_part : length (take (length buf - at) (drop at buf)) ≡ length s - at
  filling_part =
      let l = filling_length in
      lent_length F.head [] s buf [] at (length buf - at) F.ends F.front (omega (arith, F.room)) ∙ omega arith

  stops : (v : Bool) → fill next F.fuel (length s - at) r ≡ nothing_more r → v ≡ is_none (next r) → FilledAs next q s buf at v r
  stops v e i =
      let whole : fill next (length s) (length s) q ≡ record { octets = F.head; rest = r } =
      F.rest ∙ rw e (ap (λ (l : List ℕ). record { octets = l; rest = r }) (append-nil F.head)) in
      record {
        wrote = rw whole (sym F.ends);
        octets = rw whole F.front;
        after = rw whole refl;
        ended = i;
      }

  -- nothing is left
  pub filling_done : next r ≡ none → FilledAs next q s buf at true r
  unfolding fill fill_with
  filling_done e = stops true (empty F.fuel) (rw e)
    where
      empty : (fuel : ℕ) → fill next fuel (length s - at) r ≡ nothing_more r
      empty zero = refl
      empty (suc fuel) = rw e

  -- what is next, and what a writer of it answered and left of the part that was lent
  module _ (p : Piece R) (e : next r ≡ some p) (some-octets : 0 < length p.octets) {y : List ℕ} where
    -- it did not fit
    pub filling_full : PutWhole p.octets (take (length buf - at) (drop at buf)) None y → FilledAs next q s (put_mid at (length buf - at) buf y) at false r
    unfolding fill fill_with when◌then◌else◌
    filling_full does =
        let short = put_nothing does in
        rw (part_same at (length buf - at) buf y short.1) (stops false (full F.fuel (omega (arith, filling_part, short.0))) (rw e))
      where
        full : (fuel : ℕ) → length s - at < length p.octets → fill next fuel (length s - at) r ≡ nothing_more r
        full zero h = refl
        full (suc fuel) h = rw (e, lt-leb (length p.octets) (length s - at) h)

    -- it did
    pub filling_within : {n : ℕ} → PutWhole p.octets (take (length buf - at) (drop at buf)) (Some n) y → at + n ≤ length s
    filling_within does = let all = put_all does in omega (arith, filling_part, all.0, all.1, F.room)

    pub filling_next : {n : ℕ} → PutWhole p.octets (take (length buf - at) (drop at buf)) (Some n) y → Filling next q s (put_mid at (length buf - at) buf y) (at + n) p.rest
    unfolding fill fill_with when◌then◌else◌
    filling_next {n} does =
        let lb : length buf ≡ length s = filling_length in
        let all = put_all does in
        let m : n ≡ length p.octets = all.0 in
        let h : length p.octets ≤ length s - at = omega (arith, filling_part, all.1) in
        let k : length s - at - length p.octets ≡ length s - (at + length p.octets) = omega arith in
        rw m
        (record {
          head = F.head ++ p.octets;
          fuel = F.fuel - 1;
          ends = omega (arith, length-append F.head p.octets, F.ends);
          room = omega (arith, F.room);
          enough = omega (arith, F.enough, F.room);
          front = lent F.head p.octets s buf y at (length buf - at) F.ends F.front (omega (arith, F.room)) (omega arith) all.2;
          rest =
              F.rest
              ∙ rw (turn F.fuel (omega (arith, F.enough, F.room)) h, k)
              (ap (λ (l : List ℕ). record { octets = l; rest = (fill next (F.fuel - 1) (length s - (at + length p.octets)) p.rest).rest })
              (sym (append_assoc F.head p.octets (fill next (F.fuel - 1) (length s - (at + length p.octets)) p.rest).octets)));
        })
      where
        turn : (fuel : ℕ) → 0 < fuel → length p.octets ≤ length s - at
            → fill next fuel (length s - at) r ≡ before p.octets (fill next (fuel - 1) (length s - at - length p.octets) p.rest)
        turn zero g h = absurd (omega arith)
        turn (suc fuel) g h = let j : suc fuel - 1 ≡ fuel = omega arith in rw (e, le-leb (length p.octets) (length s - at) h, j)

-- a part of s is lent, and h put before it afterwards
lent_before : {A : Type 0} (h o s ys : List A) (a k : ℕ) → length h ≡ a → a + k ≤ length s → length o ≤ k → ys ≡ onto o (take k (drop a s)) → onto h (put_mid a k s ys) ≡ onto (h ++ o) s
lent_before {A} h o s ys a k at ends fits does =
    let t : take a (onto h s) ≡ h = take_at h (drop (length h) s) a at in
    let d : drop a (onto h s) ≡ drop a s = drop_at h (drop (length h) s) a at ∙ rw at in
    let behind : drop (length h) (put_mid a k s ys) ≡ ys ++ drop k (drop a s) = rw at (drop_at (take a s) (ys ++ drop k (drop a s)) a (length-take-le a s (omega arith))) in
    let after : put_mid a k (onto h s) ys ≡ h ++ (ys ++ drop k (drop a s)) = rw (t, d) in
    ap (λ (x : List A). h ++ x) behind ∙ sym after ∙ lent h o s (onto h s) ys a k at refl ends fits (does ∙ ap (λ (x : List A). onto o (take k x)) (sym d))

-- ---- a report frame: the part behind the header is lent on, and the header put before it

module _ (action dialog : ℕ) (s : List ℕ) (end : ℕ) (long : 260 ≤ length s) (ends : end ≡ room s) where
  abbrev header : List ℕ
  header = category ∷ action ∷ dialog ∷ []

  room_some : 3 ≤ end
  room_some = omega (arith, ends, long)

  room_within : end ≤ length s
  room_within = omega (arith, ends)

  frame-room : length (take (end - 3) (drop 3 s)) ≡ room s - 3
  frame-room = length-take-le (end - 3) (drop 3 s) (rw (length-drop 3 s) (omega (arith, room_within))) ∙ ap (λ (k : ℕ). k - 3) ends

  module _ {R : Type 0} {next : R → Option (Piece R)} {q rest : R} {y : List ℕ} {n : ℕ} {done : Bool} (f : FilledAs next q (take (end - 3) (drop 3 s)) y n done rest) where
    behind-header : fill next (length (take (end - 3) (drop 3 s))) (length (take (end - 3) (drop 3 s))) q ≡ fill next (room s - 3) (room s - 3) q
    behind-header = ap (λ (k : ℕ). fill next k k q) frame-room

    header-fits : 3 ≤ length (put_mid 3 (end - 3) s y)
    header-fits = omega (arith, length-append (take 3 s) (y ++ drop (end - 3) (drop 3 s)), length-take-le 3 s (omega (arith, long)))

    pub framed : (s' : List ℕ) → s' ≡ (put_at header 0 (put_mid 3 (end - 3) s y)).octets → FramedAs next action dialog q s s' n done rest
    unfolding next_frame
    framed s' e =
        let within = fill-fits next (room s - 3) (room s - 3) q in
        let w : n ≡ length (fill next (room s - 3) (room s - 3) q).octets = f.wrote ∙ ap (λ (p : Piece R). length p.octets) behind-header in
        record {
          short = omega (arith, within, w, ends, room_some);
          wrote = ap (λ (k : ℕ). 3 + k) w ∙ omega arith;
          octets =
              e
              ∙ ap (λ (w : WrittenBuffer). w.octets) (put_at-fits header 0 (put_mid 3 (end - 3) s y) header-fits)
              ∙ lent_before header (fill next (room s - 3) (room s - 3) q).octets s y 3 (end - 3) refl (omega (arith, room_some, room_within)) (omega (arith, within, ends))
              (f.octets ∙ ap (λ (p : Piece R). onto p.octets (take (end - 3) (drop 3 s))) behind-header);
          after = f.after ∙ ap (λ (p : Piece R). p.rest) behind-header;
          ended = f.ended;
        }
