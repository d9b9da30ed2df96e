-- Laws of the request writer's elements: the first so many, which are made place by place.
-- Assumes nothing.
use Rattle.std.proofs.Common.{◌≡◌, refl, ℕ, min, ◌∙◌, ap, sym, Bool, true, false, List, [], ◌++◌, map, length, take, ltb, ltb-true, length-take, take_all, take_at, arith}
use Rattle.std.proofs.Math.ListN.{length-map}
use Rattle.laws.specs.Choice.{when◌then◌else◌}
use Rattle.laws.proofs.Arrays.{take_within}
use Rattle.octets.specs.declared.numbers.Kind.{Kind}
use Rattle.requests.specs.Elements.{element_capacity}
use Rattle.requests.specs.declared.Element.{Element}
use Rattle.request_writer.specs.Writer.{elements_answer, write_answer, write_octets, write_request}
use Rattle.firmware.specs.declared.RequestElement.{RequestElement}

-- what stands past the end of elements handed in: the default that the logic reads there
abbrev pub past_given : RequestElement
past_given = record { token = 0; ty = 0; timeout = 0; limit = 0; filter = [] }

-- an array whose first i places are made of another's, as many as n says: its first n are made of the other's
pub first_made : {A B : Type 0} (f : A → B) (from : List A) (to others : List B) (n i most : ℕ) → length from ≡ most → length to ≡ most → i ≡ min n most
    → to ≡ map f (take i from) ++ others → take n to ≡ map f (take n from)
first_made f from to others n i most p q e is =
    let size : length (map f (take i from)) ≡ i = length-map (take i from) f ∙ length-take i from ∙ omega (arith, p, e) in
    sym (take_within to most i q n e) ∙ ap (take i) is ∙ take_at (map f (take i from)) others i size ∙ ap (map f) (take_within from most i p n e)

-- the writer looks at no element past the count
module _ (kind : Kind) (dialog : ℕ) (es fs : List Element) (count : ℕ) (e : length es ≡ element_capacity) (f : length fs ≡ element_capacity) (same : take count es ≡ take count fs) where
  answer-first : elements_answer kind es count ≡ elements_answer kind fs count
  unfolding elements_answer when◌then◌else◌
  answer-first = go (ltb 8 count) refl
    where
      go : (b : Bool) → ltb 8 count ≡ b → elements_answer kind es count ≡ elements_answer kind fs count
      go true t =
          let p = ltb-true 8 count t in
          ap (λ (l : List Element). elements_answer kind l count) (sym (take_all count es (omega arith)) ∙ same ∙ take_all count fs (omega arith))
      go false t = rw (t, same)

  pub write-first : (s : List ℕ) → write_request kind dialog es count s ≡ write_request kind dialog fs count s
  unfolding write_answer write_octets
  write-first s = rw (answer-first, same)
