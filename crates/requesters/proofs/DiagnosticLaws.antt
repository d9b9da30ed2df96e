-- Laws of diagnostic requests: of the late drop, of the elements left, and of an accepted frame.
-- Assumes nothing.
use Rattle.std.proofs.Common.{ℕ, ◌+◌, ◌≤◌, ◌<◌, ◌≡◌, refl, sym, ap, ◌∙◌, Bool, true, false, ◌||◌, List, [], ◌∷◌, ◌++◌, map, append_assoc, append-nil, ltb, length, get_or, take, drop, set, drop_of_length-le, drop-cons, take-suc-set, add-one, arith, lt-ltb}
use Rattle.std.proofs.Math.Option.{none, some}
use Rattle.laws.specs.Members.{any}
use Rattle.laws.specs.Choice.{when◌then◌else◌}
use Rattle.model.specs.declared.Diagnostic.{Diagnostic}
use Rattle.requests.specs.declared.Element.{Element}
use Rattle.model.specs.Diagnostics.{diagnostic_treatment, is_cancel, holds_cancel, diagnostic_of, is_late, on_time, unless_over}

-- a request by the number of its elements
pub unless-over : (dialog accepted : ℕ) (xs : List Diagnostic) (n : ℕ) → length xs ≡ n
    → (when ltb 0 n then some (record { dialog = dialog; accepted = accepted; elements = xs }) else none) ≡ unless_over dialog accepted xs
unfolding unless_over when◌then◌else◌
unless-over dialog accepted [] n e = rw (← e)
unless-over dialog accepted (x ∷ xs) n e = rw (lt-ltb 0 n (omega arith))

module _ (since : ℕ → ℕ → ℕ) (now accepted : ℕ) where
  -- the late drop of one element after the other
  pub on_time_cons : (x : Diagnostic) (xs : List Diagnostic) → on_time since now accepted (x ∷ []) ++ on_time since now accepted xs ≡ on_time since now accepted (x ∷ xs)
  unfolding on_time when◌then◌else◌
  on_time_cons x xs = go (is_late since now accepted x)
    where
      go : (b : Bool) → (when b then [] else x ∷ []) ++ on_time since now accepted xs ≡ (when b then on_time since now accepted xs else x ∷ on_time since now accepted xs)
      go true = refl
      go false = refl

  -- k is kept of the places before i of a list l, and x stands at i
  pub on_time_next : (l : List Diagnostic) (i : ℕ) (d x : Diagnostic) (k k' whole : List Diagnostic) → i < length l → get_or l i d ≡ x
      → k ++ on_time since now accepted (drop i l) ≡ whole → k' ≡ k ++ on_time since now accepted (x ∷ []) → k' ++ on_time since now accepted (drop (i + 1) l) ≡ whole
  on_time_next l i d x k k' whole h q e f =
      rw (f, append_assoc k (on_time since now accepted (x ∷ [])) (on_time since now accepted (drop (i + 1) l)), on_time_cons x (drop (i + 1) l))
      (rw (drop-cons l i d h, ← add-one i, q) at e)

  -- what a place adds to what is kept: its element at the next place of es, or nothing
  pub on_time-kept : (x : Diagnostic) (es : List Diagnostic) (n : ℕ) → n < length es → is_late since now accepted x ≡ false
      → take (n + 1) (set es n x) ≡ take n es ++ on_time since now accepted (x ∷ [])
  unfolding on_time when◌then◌else◌
  on_time-kept x es n h e = rw (e, add-one) (take-suc-set es n x h)

  pub on_time-late : (x : Diagnostic) (k : List Diagnostic) → is_late since now accepted x ≡ true → k ≡ k ++ on_time since now accepted (x ∷ [])
  unfolding on_time when◌then◌else◌
  on_time-late x k e = rw e (sym (append-nil k))

  pub on_time_end : (l : List Diagnostic) (i : ℕ) (k whole : List Diagnostic) → length l ≤ i → k ++ on_time since now accepted (drop i l) ≡ whole → k ≡ whole
  unfolding on_time
  on_time_end l i k whole h e = sym (append-nil k) ∙ (rw (drop_of_length-le l {i = i} h) at e)

-- the default that the logic reads past an array of diagnostics
abbrev pub past_diagnostics : Diagnostic
past_diagnostics = record { token = 0; ty = 0; timeout = 0 }

-- does one of the elements of a frame ask for a Cancel?
pub cancels_listed : (es : List Element) → any (λ x. is_cancel (diagnostic_treatment x.ty)) es ≡ holds_cancel (map diagnostic_of es)
unfolding any
cancels_listed [] = refl
cancels_listed (x ∷ es) = ap (λ b. is_cancel (diagnostic_treatment x.ty) || b) (cancels_listed es)
