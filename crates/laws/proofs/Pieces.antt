-- Laws of pieces that stand one behind the other, for the loop that writes them and for the walk that reads them.
-- Assumes nothing.
use Rattle.std.proofs.Common.{ℕ, suc, ◌+◌, ◌≤◌, ◌<◌, ◌≡◌, refl, sym, ap, ◌∙◌, List, [], ◌∷◌, ◌++◌, append_assoc, append-nil, length, get_or, drop, length-append, drop_of_length-le, drop-cons, add-one, arith}
use Rattle.laws.specs.Members.{All, also}
use Rattle.laws.specs.Buffers.{pieces}
use Rattle.laws.proofs.Parts.{stands-behind}

-- the pieces from i on are the i-th and those behind it
module _ {P : Type 0} (f : ℕ → P → List ℕ) (ps : List P) (i : ℕ) where
  pub pieces_next : (d : P) → i < length ps → pieces f i (drop i ps) ≡ f i (get_or ps i d) ++ pieces f (i + 1) (drop (i + 1) ps)
  unfolding pieces
  pieces_next d h = rw (drop-cons ps i d h, add-one)

  pub pieces_end : length ps ≤ i → pieces f i (drop i ps) ≡ []
  unfolding pieces
  pieces_end h = rw (drop_of_length-le ps {i = i} h)

-- the octets of one piece more
pub pieces_snoc : {P : Type 0} (f : P → List ℕ) (i : ℕ) (ps : List P) (p : P) → pieces (λ (k : ℕ) (x : P). f x) i (ps ++ (p ∷ [])) ≡ pieces (λ (k : ℕ) (x : P). f x) i ps ++ f p
unfolding pieces
pieces_snoc f i [] p = append-nil (f p)
pieces_snoc f i (x ∷ ps) p = ap (λ (l : List ℕ). f x ++ l) (pieces_snoc f (suc i) ps p) ∙ sym (append_assoc (f x) _ (f p))

-- pieces that do not look at their number
pub pieces-from : {P : Type 0} (f : P → List ℕ) (i j : ℕ) (ps : List P) → pieces (λ _ p. f p) i ps ≡ pieces (λ _ p. f p) j ps
unfolding pieces
pieces-from f i j [] = refl
pieces-from f i j (p ∷ ps) = ap (λ (o : List ℕ). f p ++ o) (pieces-from f (suc i) (suc j) ps)

-- what each piece has, given those before it
unfoldable pub Each : {P : Type 0} → (List P → P → Type 0) → List P → List P → Type 0
Each F front [] = Unit {0}
Each F front (p ∷ ps) = F front p × Each F (front ++ (p ∷ [])) ps

pub each_all : {P : Type 0} (F : P → Type 0) (front ps : List P) → All F ps → Each (λ _ p. F p) front ps
unfolding Each
each_all F front [] f = tt
each_all F front (p ∷ ps) (also f fs) = (f, each_all F (front ++ (p ∷ [])) ps fs)

-- what holds at a position behind some pieces, and what each piece carries on, holds at the end
module _ {P : Type 0} (f : ℕ → P → List ℕ) (s : List ℕ) (end : ℕ) (Fine : List P → P → Type 0) (Left : ℕ → List P → Type 0)
    (passes : (front : List P) (p : P) (at : ℕ) (r : List ℕ) → Fine front p → drop at s ≡ f (length front) p ++ r → at + length (f (length front) p) ≤ end
    → Left at front → Left (at + length (f (length front) p)) (front ++ (p ∷ []))) where
  pub along : (ps front : List P) (at i : ℕ) (r : List ℕ) → length front ≡ i → Each Fine front ps → drop at s ≡ pieces f i ps ++ r → at + length (pieces f i ps) ≡ end
      → Left at front → Left end (front ++ ps)
  unfolding pieces Each
  along [] front at i r e fine h ends left = let z : at ≡ end = omega arith in rw (append-nil front, ← z) left
  along (p ∷ ps) front at i r e fine h ends left =
      let o : List ℕ = f (length front) p in
      let rest : List ℕ = pieces f (suc i) ps in
      let q : f i p ≡ o = ap (λ (k : ℕ). f k p) (sym e) in
      let h₁ : drop at s ≡ o ++ (rest ++ r) = h ∙ ap (λ (l : List ℕ). (l ++ rest) ++ r) q ∙ append_assoc o rest r in
      let n : length (f i p ++ rest) ≡ length o + length rest = length-append (f i p) rest ∙ ap (λ (l : List ℕ). length l + length rest) q in
      let e₁ : length (front ++ (p ∷ [])) ≡ suc i = length-append front (p ∷ []) ∙ omega arith in
      rw append_assoc at
      (along ps (front ++ (p ∷ [])) (at + length o) (suc i) r e₁ fine.1
      (stands-behind s at o (rest ++ r) h₁ (at + length o) refl) (omega arith)
      (passes front p at (rest ++ r) fine.0 h₁ (omega arith) left))
