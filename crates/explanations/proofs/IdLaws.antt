-- The IDs of an element's conditions: every condition that the walk found stands among them.
-- Assumes nothing.
use Rattle.std.proofs.Common.{ℕ, zero, suc, ◌+◌, ◌<◌, ◌≡◌, refl, sym, ap, ◌∙◌, Bool, true, false, not, ◌⊎◌, inl, inr, List, [], ◌∷◌, arith, eqb, ltb, get_or, set, get_or-set_other, eqb-true}
use Rattle.std.proofs.lemmas.Bool.{eqb-false}
use Rattle.laws.specs.Choice.{when◌then◌else◌}
use Rattle.laws.specs.Walk.{repeat_while}
use Rattle.laws.specs.Members.{Among, first, later}
use Rattle.laws.proofs.Choice.{either, never}
use Rattle.laws.proofs.Members.{among_none}
use Rattle.std.proofs.lemmas.Bool.{and_parts}
use Rattle.laws.proofs.Walk.{keeps_while}
use Rattle.octets.specs.Elements.{piece_end}
use Rattle.octets.specs.Refusals.{no_refusal, bad_subelement, repeated_subelement}
use Rattle.subelements.specs.declared.Condition.{Condition}
use Rattle.subelements.specs.Subelements.{length_of, body_at, no_filter, past_filter, walked, refused_walk, past, whole_step, subelement_step, more_subelements, walk, Subelements}
use Rattle.subelements.proofs.Tables.{known_id}
use Rattle.explanations.specs.Explanations.{own_id, condition_ids}

one_known : (id i : ℕ) (ids : List ℕ) → id < 5 → (Among i ids → i < 5) → Among i (id ∷ ids) → i < 5
one_known id i ids h f first = h
one_known id i ids h f (later a) = f a

-- every ID has a place in a filter
module _ (s : List ℕ) (ty end : ℕ) where
  own_known : (want id i : ℕ) (ids : List ℕ) → ((want ≡ 0 → ⊥) → id < 5) → (Among i ids → i < 5) → Among i (own_id want id ids) → i < 5
  unfolding own_id
  own_known want id i ids k f =
      either (λ (l : List ℕ). Among i l → i < 5) (eqb want 0) ids (id ∷ ids) (λ _ a. f a) (λ e a. one_known id i ids (k (eqb-false want 0 e)) f a)

  pub ids_known : (k at i : ℕ) → Among i (condition_ids k s ty at end) → i < 5
  unfolding condition_ids
  ids_known zero at i = among_none
  ids_known (suc k) at i =
      let P : List ℕ → Type 0 = λ (l : List ℕ). Among i l → i < 5 in
      either P _ _ _ (λ _. among_none) (λ _. either P _ _ _ (λ _. among_none)
      (λ _. own_known _ (get_or s at 0) i _ (known_id ty (get_or s at 0) (get_or s (at + 2) 0)) (ids_known k (piece_end s at end) i)))

  -- a walk that was refused stays so
  refused-stays : (k : ℕ) (w : Subelements) → (w.refusal.number ≡ 0 → ⊥) → (repeat_while k (more_subelements end) (subelement_step s ty end) w).refusal.number ≡ 0 → ⊥
  refused-stays k w n =
      keeps_while (λ w. w.refusal.number ≡ 0 → ⊥) (more_subelements end) (subelement_step s ty end)
      (λ v m z. absurd (z (eqb-true _ 0 (and_parts (eqb v.refusal.number 0) (ltb v.at end) m).0))) k w n

  abbrev present : List Condition → ℕ → Bool
  present filter i = (get_or filter i past_filter).present

  abbrev ending : ℕ → Subelements → Subelements
  ending k w = repeat_while k (more_subelements end) (subelement_step s ty end) w

  -- what the walk from w on finds, w has or stands among the IDs from there on
  abbrev Covers : ℕ → Subelements → List ℕ → Subelements → Type 0
  Covers i w ids r = r.refusal.number ≡ 0 → present r.filter i ≡ true → (present w.filter i ≡ true) ⊎ Among i ids

  module _ (k i : ℕ) (w : Subelements) (ih : (v : Subelements) → Covers i v (condition_ids k s ty v.at end) (ending k v)) where
    refused_covers : (n place : ℕ) (ids : List ℕ) → 0 < n → Covers i w ids (ending k (refused_walk n place))
    refused_covers n place ids h z = absurd (refused-stays k (refused_walk n place) (λ y. omega arith) z)

    held_covers : (next id : ℕ) (c : Condition) (ids : List ℕ) → ids ≡ id ∷ condition_ids k s ty next end → Covers i w ids (ending k (past w next (set w.filter id c)))
    held_covers next id c ids e z h = at (eqb i id) refl (ih (past w next (set w.filter id c)) z h)
      where
        at : (b : Bool) → eqb i id ≡ b → (present (set w.filter id c) i ≡ true) ⊎ Among i (condition_ids k s ty next end) → (present w.filter i ≡ true) ⊎ Among i ids
        at true j o = inr (rw (e, eqb-true i id j) first)
        at false j (inl p) = inl (ap (λ (x : Condition). x.present) (sym (get_or-set_other w.filter id i c past_filter (eqb-false i id j))) ∙ p)
        at false j (inr a) = inr (rw e (later a))

    whole_covers : (next : ℕ) → Covers i w (own_id (length_of ty (get_or s w.at 0) (get_or s (w.at + 2) 0)) (get_or s w.at 0) (condition_ids k s ty next end)) (ending k (whole_step s ty w next))
    unfolding whole_step own_id when◌then◌else◌
    whole_covers next = go (eqb (length_of ty id (get_or s (w.at + 2) 0)) 0) (not (eqb (get_or s (w.at + 1) 0) (length_of ty id (get_or s (w.at + 2) 0)))) (present w.filter id)
      where
        id : ℕ
        id = get_or s w.at 0

        ids : List ℕ
        ids = condition_ids k s ty next end

        c : Condition
        c = record { present = true; octets = body_at s (w.at + 2) (get_or s (w.at + 1) 0) }

        go : (a b d : Bool) → Covers i w (when a then ids else id ∷ ids)
            (ending k (when a then past w next w.filter else when b then refused_walk bad_subelement w.at else when d then refused_walk repeated_subelement w.at else past w next (set w.filter id c)))
        go true b d = ih (past w next w.filter)
        go false true d = refused_covers 7 w.at (id ∷ ids) (omega arith)
        go false false true = refused_covers 8 w.at (id ∷ ids) (omega arith)
        go false false false = held_covers next id c (id ∷ ids) refl

    step_covers : ltb w.at end ≡ true → Covers i w (condition_ids (suc k) s ty w.at end) (ending k (subelement_step s ty end w))
    unfolding subelement_step condition_ids when◌then◌else◌
    step_covers m = rw m (go (eqb (piece_end s w.at end) 0))
      where
        go : (b : Bool) → Covers i w (when b then [] else own_id (length_of ty (get_or s w.at 0) (get_or s (w.at + 2) 0)) (get_or s w.at 0) (condition_ids k s ty (piece_end s w.at end) end))
            (ending k (when b then refused_walk bad_subelement w.at else whole_step s ty w (piece_end s w.at end)))
        go true = refused_covers 7 w.at [] (omega arith)
        go false = whole_covers (piece_end s w.at end)

  walk_covers : (k i : ℕ) (w : Subelements) → Covers i w (condition_ids k s ty w.at end) (ending k w)
  unfolding repeat_while
  walk_covers zero i w = λ z h. inl h
  walk_covers (suc k) i w = go (more_subelements end w) refl (step_covers k i w (walk_covers k i))
    where
      go : (b : Bool) → more_subelements end w ≡ b → (ltb w.at end ≡ true → Covers i w (condition_ids (suc k) s ty w.at end) (ending k (subelement_step s ty end w)))
          → Covers i w (condition_ids (suc k) s ty w.at end) (elim b [ true ↦ ending k (subelement_step s ty end w) | false ↦ w ])
      go true m f = f (and_parts (eqb w.refusal.number 0) (ltb w.at end) m).1
      go false m f = λ z h. inl h

-- a filter with no condition
pub none_present : (i : ℕ) → (get_or no_filter i past_filter).present ≡ false
none_present zero = refl
none_present (suc zero) = refl
none_present (suc (suc zero)) = refl
none_present (suc (suc (suc zero))) = refl
none_present (suc (suc (suc (suc zero)))) = refl
none_present (suc (suc (suc (suc (suc i))))) = refl

-- so every condition of a whole walk stands among the IDs
pub walk_ids : (s : List ℕ) (ty from end i : ℕ) → (walk s ty from end).refusal.number ≡ 0 → (get_or (walk s ty from end).filter i past_filter).present ≡ true → Among i (condition_ids end s ty from end)
unfolding walk
walk_ids s ty from end i z h = go (walk_covers s ty end end i (walked no_refusal from) z h)
  where
    go : ((get_or no_filter i past_filter).present ≡ true) ⊎ Among i (condition_ids end s ty from end) → Among i (condition_ids end s ty from end)
    go (inl p) = never (sym (none_present i) ∙ p)
    go (inr a) = a
