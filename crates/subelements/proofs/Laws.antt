-- Laws of the walk over subelements: a turn of its loop, by the tests that lead through it.
-- Assumes nothing.
use Rattle.std.proofs.Common.{ℕ, ◌+◌, ◌-◌, ◌≤◌, ◌<◌, ◌≡◌, refl, sym, ap, ap₂, ◌∙◌, true, false, List, length, get_or, set, length-set, eq-eqb, ne_eqb, arith}
use Rattle.laws.specs.Choice.{when◌then◌else◌}
use Rattle.laws.proofs.Walk.{Rest, start, last, again, done, go_on, stop_refused, stop_end}
use Rattle.octets.specs.Elements.{piece_end}
use Rattle.octets.specs.Refusals.{no_refusal, bad_subelement, repeated_subelement}
use Rattle.octets.proofs.ElementLaws.{Ends, piece_ends}
use Rattle.subelements.specs.declared.Condition.{Condition}
use Rattle.subelements.specs.Subelements.{length_of, body_at, past_filter, walked, refused_walk, past, whole_step, subelement_step, more_subelements, walk, Subelements}
use Rattle.subelements.proofs.Tables.{known_id}

-- what holds before each turn: not refused, the position bounds the count, and what is left of the walk gives what the whole walk gives
pub record Walking (s : List ℕ) (ty from end : ℕ) (w : Subelements) : Type 0 where
  pub sound : w.refusal ≡ no_refusal
  pub counted : w.count ≤ w.at
  pub five : length w.filter ≡ 5
  pub rest : Rest (more_subelements end) (subelement_step s ty end) (walk s ty from end) (end - w.at) w

pub walking_start : (s : List ℕ) (ty from end : ℕ) → Walking s ty from end (walked no_refusal from)
unfolding walk
walking_start s ty from end = record { sound = refl; counted = omega arith; five = refl; rest = start _ _ end _ _ (omega arith) }

module _ {s : List ℕ} {ty from end : ℕ} {w : Subelements} (i : Walking s ty from end w) where
  unrefused : w.refusal.number ≡ 0
  unrefused = ap (λ r. r.number) i.sound

  pub walking_end : end ≤ w.at → w ≡ walk s ty from end
  walking_end h = done i.rest (stop_end _ _ _ unrefused h)

  module _ (h : w.at < end) {next : ℕ} (e : next ≡ piece_end s w.at end) where
    refuses : {r : Subelements} (n : ℕ) → 0 < n → r ≡ refused_walk n w.at → refused_walk n w.at ≡ subelement_step s ty end w → r ≡ walk s ty from end
    refuses n p q f = q ∙ last i.rest (go_on _ _ _ unrefused h) (omega arith) f (stop_refused n 0 end (λ z. omega arith))

    pub refused_edge : {r : Subelements} → next ≡ 0 → r ≡ refused_walk bad_subelement w.at → r ≡ walk s ty from end
    unfolding subelement_step when◌then◌else◌
    refused_edge z q = refuses 7 (omega arith) q (rw (← e, eq-eqb next 0 z))

    module _ (z : next ≡ 0 → ⊥) where
      ends : Ends s w.at end next
      ends = rw e (piece_ends s w.at end (λ y. z (e ∙ y)))

      pub moves : end - next < end - w.at
      moves = omega (arith, ends.is)

      pub within : {n : ℕ} → n ≡ get_or s (w.at + 1) 0 → w.at + 2 + n ≤ end
      within m = omega (arith, m, ends.is, ends.within)

      goes : (f : List Condition) → length f ≡ 5 → past w next f ≡ subelement_step s ty end w
          → Walking s ty from end (record { refusal = w.refusal; at = next; count = w.count + 1; filter = f })
      goes f l q =
          rw i.sound
          (record { sound = refl; counted = omega (arith, ends.is, i.counted); five = l; rest = again _ i.rest (go_on _ _ _ unrefused h) moves q })

      module _ {id first want : ℕ} (d : id ≡ get_or s w.at 0) (f : first ≡ get_or s (w.at + 2) 0) (g : want ≡ length_of ty id first) where
        as_wanted : length_of ty (get_or s w.at 0) (get_or s (w.at + 2) 0) ≡ want
        as_wanted = sym (g ∙ ap₂ (length_of ty) d f)

        pub passed_over : want ≡ 0 → Walking s ty from end (record { refusal = w.refusal; at = next; count = w.count + 1; filter = w.filter })
        unfolding subelement_step whole_step when◌then◌else◌
        passed_over k = goes w.filter i.five (rw (← e, ne_eqb next 0 z, as_wanted, eq-eqb want 0 k))

        module _ (k : want ≡ 0 → ⊥) where
          pub known : id < 5
          known = known_id ty id first (λ y. k (g ∙ y))

          module _ {n : ℕ} (m : n ≡ get_or s (w.at + 1) 0) where
            pub refused-length : {r : Subelements} → (n ≡ want → ⊥) → r ≡ refused_walk bad_subelement w.at → r ≡ walk s ty from end
            unfolding subelement_step whole_step when◌then◌else◌
            refused-length l q = refuses 7 (omega arith) q (rw (← e, ne_eqb next 0 z, as_wanted, ne_eqb want 0 k, ← m, ne_eqb n want l))

            module _ (l : n ≡ want) where
              pub refused_repeat : {r : Subelements} → (get_or w.filter id past_filter).present ≡ true → r ≡ refused_walk repeated_subelement w.at → r ≡ walk s ty from end
              unfolding subelement_step whole_step when◌then◌else◌
              refused_repeat b q = refuses 8 (omega arith) q (rw (← e, ne_eqb next 0 z, as_wanted, ne_eqb want 0 k, ← m, eq-eqb n want l, ← d, b))

              pub held : {o : List ℕ} → (get_or w.filter id past_filter).present ≡ false → o ≡ body_at s (w.at + 2) n
                  → Walking s ty from end (record { refusal = w.refusal; at = next; count = w.count + 1; filter = set w.filter id (record { present = true; octets = o }) })
              unfolding subelement_step whole_step when◌then◌else◌
              held b q =
                  rw q (goes (set w.filter id _) (length-set w.filter id _ ∙ i.five) (rw (← e, ne_eqb next 0 z, as_wanted, ne_eqb want 0 k, ← m, eq-eqb n want l, ← d, b)))

-- from its end on there is nothing
pub walk-at_end : (s : List ℕ) (ty end : ℕ) → walk s ty end end ≡ walked no_refusal end
walk-at_end s ty end = sym (walking_end (walking_start s ty end end) (omega arith))
