-- Laws of a test of a list that is true where a test of one of its elements is. Loops look at the elements in order.
-- Assumes nothing.
use Rattle.std.proofs.Common.{ℕ, zero, suc, ◌+◌, ◌≤◌, ◌<◌, ◌≡◌, refl, sym, ap, ◌∙◌, Bool, true, false, ◌||◌, List, [], ◌∷◌, length, get_or, drop, drop_of_length-le, drop-cons, add-one, arith}
use Rattle.std.proofs.lemmas.Iterator.{YieldsList}
use Rattle.std.proofs.lemmas.Iterator.Search.{any_from_yields_List}
use Rattle.std.specs.Prelude.{⊤, Option, MatchOption}
use Rattle.std.specs.Fn.{Mut, Called}
use Rattle.std.specs.Iterator.{YieldsThen}
use Rattle.std.specs.List.{list_any, FoldsTo}
use Rattle.laws.specs.Members.{any}

-- `Some-of` tests a list by `one`, which may look at the elements behind the one that it tests
module _ {A : Type 0} (Some-of : List A → Bool) (one : A → List A → Bool) (nil : Some-of [] ≡ false)
    (cons : (x : A) (xs : List A) → Some-of (x ∷ xs) ≡ (one x xs || Some-of xs)) (l : List A) (i : ℕ) where
  module _ (d : A) (h : i < length l) where
    pub some_here : one (get_or l i d) (drop (i + 1) l) ≡ true → true ≡ Some-of (drop i l)
    some_here e = rw (drop-cons l i d h, cons, ← add-one i, e)

    pub some_later : one (get_or l i d) (drop (i + 1) l) ≡ false → Some-of (drop (i + 1) l) ≡ Some-of (drop i l)
    some_later e = rw (drop-cons l i d h, cons, ← add-one i, e)

  pub some_none : length l ≤ i → false ≡ Some-of (drop i l)
  some_none h = rw (drop_of_length-le l {i = i} h, nil)

-- the invariant of a loop that looks for an element which passes a test: those from i on have one as all of them have
pub record Seeking {A : Type 0} (test : A → Bool) (l : List A) (i : ℕ) (has : Bool) : Type 0 where
  pub left : any test (drop i l) ≡ has

module _ {A : Type 0} {test : A → Bool} {l : List A} {i : ℕ} {has : Bool} (S : Seeking test l i has) where
  pub found_here : (d : A) → i < length l → test (get_or l i d) ≡ true → true ≡ has
  unfolding any
  found_here d h e = some_here (any test) (λ x xs. test x) refl (λ x xs. refl) l i d h e ∙ S.left

  pub found_none : length l ≤ i → false ≡ has
  unfolding any
  found_none h = some_none (any test) (λ x xs. test x) refl (λ x xs. refl) l i h ∙ S.left

-- where a list has none, no place of it has, nor what stands past its end
module _ {A : Type 0} (Some-of : List A → Bool) (one : A → Bool) (cons : (x : A) (xs : List A) → Some-of (x ∷ xs) ≡ (one x || Some-of xs)) (d : A)
    (past : one d ≡ false) where
  pub none_at : (l : List A) → Some-of l ≡ false → (i : ℕ) → one (get_or l i d) ≡ false
  none_at [] = λ e i. past
  none_at (x ∷ l) = λ e. go (one x) refl (none_at l) (sym (cons x l) ∙ e)
    where
      go : (b : Bool) → one x ≡ b → (Some-of l ≡ false → (i : ℕ) → one (get_or l i d) ≡ false) → (b || Some-of l) ≡ false → (i : ℕ) → one (get_or (x ∷ l) i d) ≡ false
      go true p later e i = absurd (let z : ◌≡◌ {A = ℕ} 0 1 = cc in omega arith)
      go false p later e zero = p
      go false p later e (suc i) = later e i

-- the library's test of a list is it
pub list_any_is : {A : Type 0} (test : A → Bool) (l : List A) → list_any test l ≡ any test l
unfolding any
list_any_is test [] = refl
list_any_is test (x ∷ l) = ap (λ b. test x || b) (list_any_is test l)

-- what the library's `any` answers of an iterator's items, where the closure answers the test of each and stays as it is
module _ {S A B F : Type 0} {steps : S → Option A → S → Type 0} {v : A → B} {g : Mut F (A × ⊤) Bool} {s : S} {l : List B} (test : B → Bool) (u : S) (f : F) where
  pub any_from_items : (r : Bool)
      → (xs : List A) × (o : Option A) × (j : F) × YieldsThen steps s xs o u × FoldsTo (λ p x q. Called g p (x, tt) false q) f xs j × MatchOption o (r ≡ false) (λ x. (r ≡ true) × ((h : F) × Called g j (x, tt) true h))
      → YieldsList steps v s l → ((x : A) (b : Bool) (q : F) → Called g f (x, tt) b q → (q ≡ f) × (b ≡ test (v x))) → r ≡ any test l
  any_from_items r ran items says = any_from_yields_List test u f r ran items says ∙ list_any_is test l
