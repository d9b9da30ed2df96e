-- A good identity is a list of subelements.
-- Assumes nothing.
use Rattle.std.proofs.Common.{ℕ, suc, ◌+◌, ◌≡◌, refl, sym, ap, ◌∙◌, Bool, true, false, List, [], ◌∷◌, ◌++◌, length, get_or, take, drop, length-drop, take-append-drop, drop_of_length-le, drop-cons, drop-drop, length-take-le, ltb, eqb-true, arith}
use Rattle.std.proofs.lemmas.Bool.{eqb-false}
use Rattle.laws.specs.Choice.{when◌then◌else◌}
use Rattle.laws.specs.Buffers.{pieces}
use Rattle.laws.proofs.Pieces.{pieces-from}
use Rattle.laws.proofs.Choice.{either, never}
use Rattle.octets.specs.Elements.{framed, Subelement, subelements}
use Rattle.octets.proofs.ElementLaws.{Ends, piece_ends}
use Rattle.identities.specs.declared.Row.{Row}
use Rattle.identities.specs.Identity.{Walk, rows, pass_row, good_from, good_identity}

-- the octets from a position on are a list of subelements
record Listed (o : List ℕ) : Type 0 where
  list : List Subelement
  is : subelements list ≡ o

module _ (s : List ℕ) (at : ℕ) where
  -- where a row's turn leads: nowhere, or behind a subelement
  data Moves : ℕ → Type 0 where
    stays : Moves at
    passes : {n : ℕ} → Ends s at (length s) n → Moves n

  row_moves : (r : Row) → (pass_row s at r).fine ≡ true → Moves (pass_row s at r).at
  unfolding pass_row
  row_moves r =
      let P : Walk → Type 0 = λ (w : Walk). w.fine ≡ true → Moves w.at in
      either P _ _ _ (λ _ _. stays)
      (λ _. either P _ _ _ (λ _. never)
      (λ e. either P _ _ _ (λ _. never)
      (λ _. either P _ _ _ (λ _. never) (λ _ _. passes (piece_ends s at (length s) (eqb-false _ _ e))))))

  piece_there : (n : ℕ) → Ends s at (length s) n → drop at s ≡ framed (get_or s at 0) (take (get_or s (at + 1) 0) (drop (at + 2) s)) ++ drop n s
  piece_there n e =
      let k : ℕ = get_or s (at + 1) 0 in
      let l : length (take k (drop (at + 2) s)) ≡ k = length-take-le k (drop (at + 2) s) (omega (arith, e.is, e.within, length-drop (at + 2) s)) in
      let m : suc at ≡ at + 1 = omega arith in
      let m₁ : suc (at + 1) ≡ at + 2 = omega arith in
      let a : drop at s ≡ get_or s at 0 ∷ drop (at + 1) s = drop-cons s at 0 (omega (arith, e.is, e.within)) ∙ rw m in
      let b : drop (at + 1) s ≡ k ∷ drop (at + 2) s = drop-cons s (at + 1) 0 (omega (arith, e.is, e.within)) ∙ rw m₁ in
      let c : drop k (drop (at + 2) s) ≡ drop n s = drop-drop k (at + 2) s ∙ ap (λ (j : ℕ). drop j s) e.is in
      rw (l, ← c, take-append-drop k (drop (at + 2) s), ← b) a

  listed_on : (n : ℕ) → Moves n → Listed (drop n s) → Listed (drop at s)
  unfolding subelements pieces
  listed_on n stays l = l
  listed_on n (passes e) l = record {
    list = record { id = get_or s at 0; octets = take (get_or s (at + 1) 0) (drop (at + 2) s) } ∷ l.list;
    is = ap (λ (o : List ℕ). framed (get_or s at 0) (take (get_or s (at + 1) 0) (drop (at + 2) s)) ++ o) (pieces-from (λ (p : Subelement). framed p.id p.octets) 1 0 l.list ∙ l.is) ∙ sym (piece_there n e);
  }

listed_from : (s : List ℕ) (at : ℕ) (rs : List Row) → good_from s at rs ≡ true → Listed (drop at s)
unfolding good_from subelements pieces when◌then◌else◌
listed_from s at [] e = record { list = []; is = sym (drop_of_length-le s {i = at} (omega (arith, eqb-true at (length s) e))) }
listed_from s at (r ∷ rs) e = go (pass_row s at r).fine refl (listed_from s (pass_row s at r).at rs) e
  where
    go : (b : Bool) → (pass_row s at r).fine ≡ b → (good_from s (pass_row s at r).at rs ≡ true → Listed (drop (pass_row s at r).at s)) → (when b then good_from s (pass_row s at r).at rs else false) ≡ true → Listed (drop at s)
    go true p later h = listed_on s at (pass_row s at r).at (row_moves s at r p) (later h)
    go false p later h = never h

pub good_listed : (i : List ℕ) → good_identity i ≡ true → (ps : List Subelement) × (subelements ps ≡ i)
unfolding good_identity
good_listed i = either (λ (b : Bool). b ≡ true → (ps : List Subelement) × (subelements ps ≡ i)) (ltb 252 (length i)) _ _ (λ _. never) (λ _ e. let l = listed_from i 0 rows e in (l.list, l.is))
