-- By which causes a request frame is refused: those of the table that speak of one, 1 to 10, and no other.
-- Assumes nothing.
use Rattle.std.proofs.Common.{ℕ, refl, List, ◌∷◌}
use Rattle.laws.specs.Members.{Among, first}
use Rattle.laws.proofs.Members.{among_test}
use Rattle.laws.proofs.Choice.{either}
use Rattle.laws.proofs.Walk.{keeps}
use Rattle.octets.specs.declared.numbers.Kind.{Kind}
use Rattle.octets.specs.declared.numbers.Kind.TheVariants.{Event, Diagnostic}
use Rattle.octets.specs.Refusals.{no_refusal}
use Rattle.octets.specs.Numbers.{request_action}
use Rattle.octets.specs.Frames.{frame_cause}
use Rattle.subelements.specs.Subelements.{walked, whole_step, subelement_step, walk, Subelements}
use Rattle.requests.specs.Elements.{subelements_of, started, ElementWalk, with_element, own_request_step, element_step, walk_elements}
use Rattle.requests.specs.Requests.{request_causes, request_of, request_kind, header_cause, read_request, Request}

-- none (number 0), or one of them
abbrev causes : List ℕ
causes = 0 ∷ request_causes

abbrev Listed : ℕ → Type 0
Listed n = Among n causes

-- ---- subelements

abbrev Subs : Subelements → Type 0
Subs w = Listed w.refusal.number

sub_listed : (s : List ℕ) (ty end : ℕ) (w : Subelements) → Subs (subelement_step s ty end w)
unfolding subelement_step whole_step
sub_listed s ty end w =
    either Subs _ _ _ (λ _. among_test 7 causes refl)
    (λ _. either Subs _ _ _ (λ _. first)
    (λ _. either Subs _ _ _ (λ _. among_test 7 causes refl)
    (λ _. either Subs _ _ _ (λ _. among_test 8 causes refl) (λ _. first))))

walk_listed : (s : List ℕ) (ty from end : ℕ) → Subs (walk s ty from end)
unfolding walk
walk_listed s ty from end = keeps Subs _ _ (λ w _. sub_listed s ty end w) end (walked no_refusal from) first

subelements_listed : (s : List ℕ) (kind : Kind) (at end : ℕ) → Subs (subelements_of s kind at end)
unfolding subelements_of
subelements_listed s Event at end = either Subs _ _ _ (λ _. walk_listed s _ _ end) (λ _. first)
subelements_listed s Diagnostic at end = walk_listed s _ _ end

-- ---- elements

abbrev Walked : ElementWalk → Type 0
Walked w = Listed w.refusal.number

element_listed : (most : ℕ) (s : List ℕ) (kind : Kind) (w : ElementWalk) → Walked (element_step most s kind w)
unfolding element_step own_request_step with_element
element_listed most s kind w =
    either Walked _ _ _ (λ _. among_test 4 causes refl)
    (λ _. either Walked _ _ _ (λ _. first)
    (λ _. either Walked _ _ _ (λ _. among_test 9 causes refl)
    (λ _. either Walked _ _ _ (λ _. among_test 5 causes refl)
    (λ _. either Walked _ _ _ (λ _. among_test 6 causes refl)
    (λ _. either Walked _ _ _ (λ _. subelements_listed s kind w.at _) (λ _. first))))))

elements_listed : (most : ℕ) (s : List ℕ) (kind : Kind) → Walked (walk_elements most s kind)
unfolding walk_elements
elements_listed most s kind = keeps Walked _ _ (λ w _. element_listed most s kind w) _ (started no_refusal 3) first

-- ---- the frame

head_listed : (s : List ℕ) (action : ℕ) → Listed (frame_cause s action)
unfolding frame_cause
head_listed s action =
    either Listed _ _ _ (λ _. among_test 1 causes refl)
    (λ _. either Listed _ _ _ (λ _. among_test 1 causes refl)
    (λ _. either Listed _ _ _ (λ _. among_test 2 causes refl) (λ _. either Listed _ _ _ (λ _. among_test 2 causes refl) (λ _. first))))

header_listed : (s : List ℕ) (kind : Kind) → Listed (header_cause s kind)
unfolding header_cause
header_listed s kind =
    either Listed _ _ _ (λ _. head_listed s (request_action kind)) (λ _. either Listed _ _ _ (λ _. among_test 3 causes refl) (λ _. first))

pub request_listed : (most : ℕ) (s : List ℕ) → Among (read_request most s).refusal.number (0 ∷ request_causes)
unfolding read_request request_of
request_listed most s =
    let P : Request → Type 0 = λ (q : Request). Listed q.refusal.number in
    either P _ _ _ (λ _. header_listed s (request_kind s))
    (λ _. either P _ _ _ (λ _. elements_listed most s (request_kind s))
    (λ _. either P _ _ _ (λ _. among_test 10 causes refl) (λ _. first)))
