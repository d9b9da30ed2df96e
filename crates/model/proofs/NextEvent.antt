-- What the choice of an element's next event gives, by the laws of the choice.
-- Assumes nothing.
use Rattle.std.proofs.Common.{ℕ, ◌≤◌, ◌<◌, ◌≡◌, refl, sym, ◌∙◌, Bool, true, false, List, ltb, ltb-true, ltb-false, lt-ltb, le-ltb, arith}
use Rattle.std.proofs.Math.Option.{Option, none, some}
use Rattle.laws.specs.Choice.{when◌then◌else◌}
use Rattle.laws.proofs.Choice.{either, never}
use Rattle.requests.specs.declared.Element.{Element}
use Rattle.events.specs.declared.Entry.{Entry}
use Rattle.events.specs.Choice.{last_of}
use Rattle.events.specs.Conditions.{meets}
use Rattle.events.proofs.ChoiceLaws.{Last, last_some, none_last, last_none}
use Rattle.model.specs.Model.{EventRequest}
use Rattle.model.specs.Events.{eligible_places, next_event_place}
use Rattle.model.specs.NextEvent.{Eligible, NewestMatch, NextEvent}

module _ (since : ℕ → ℕ → ℕ) (log : List Entry) (r : EventRequest) (x : Element) where
  abbrev test : ℕ → Bool
  test = meets since log x.ty x.filter

  eligible : (q : ℕ) → q < eligible_places log r → Eligible log r q
  eligible q a = record { logged = omega (arith, a); accepted = omega (arith, a); older = omega (arith, a) }

  within : (q : ℕ) → Eligible log r q → q < eligible_places log r
  within q e = omega (arith, e.logged, e.accepted, e.older)

  last_match : (p : ℕ) → r.given < x.limit → Last test (eligible_places log r) p → NewestMatch since log r x p
  last_match p l f = record {
    limit = l;
    eligible = eligible p f.within;
    matches = f.passes;
    newest = λ q e h. f.last q h (within q e);
  }

  given : (p : ℕ) → next_event_place since log r x ≡ some p → NewestMatch since log r x p
  unfolding next_event_place
  given p =
      either (λ (o : Option ℕ). o ≡ some p → NewestMatch since log r x p) _ _ _
      (λ l e. last_match p (ltb-true r.given x.limit l) (last_some test (eligible_places log r) p e)) (λ _ e. never cc)

  -- below the limit the choice is that of the places
  below : r.given < x.limit → next_event_place since log r x ≡ last_of test (eligible_places log r)
  unfolding next_event_place when◌then◌else◌
  below l = rw (lt-ltb r.given x.limit l)

  none_left : next_event_place since log r x ≡ none → r.given < x.limit → (q : ℕ) → Eligible log r q → test q ≡ false
  none_left e l q h = last_none test (eligible_places log r) q (sym (below l) ∙ e) (within q h)

  over : x.limit ≤ r.given → next_event_place since log r x ≡ none
  unfolding next_event_place when◌then◌else◌
  over h = rw (le-ltb r.given x.limit h)

  unmatched : ((q : ℕ) → Eligible log r q → test q ≡ false) → next_event_place since log r x ≡ none
  unfolding next_event_place
  unmatched f =
      either (λ (o : Option ℕ). o ≡ none) _ _ _ (λ _. none_last test (eligible_places log r) (λ q a. f q (eligible q a))) (λ _. refl)

  -- two newest matches are one
  one : (p q : ℕ) → NewestMatch since log r x p → NewestMatch since log r x q → p < q → false ≡ true
  one p q m n h = sym (m.newest q n.eligible h) ∙ n.matches

  same_match : (p q : ℕ) → NewestMatch since log r x p → NewestMatch since log r x q → q ≡ p
  same_match p q m n = by (ltb q p) refl (ltb p q) refl
    where
      by : (a : Bool) → ltb q p ≡ a → (b : Bool) → ltb p q ≡ b → q ≡ p
      by true a b _ = never (one q p n m (ltb-true q p a))
      by false a true b = never (one p q m n (ltb-true p q b))
      by false a false b = omega (arith, ltb-false q p a, ltb-false p q b)

  only : (p : ℕ) → NewestMatch since log r x p → next_event_place since log r x ≡ some p
  only p m = by (next_event_place since log r x) refl
    where
      by : (o : Option ℕ) → next_event_place since log r x ≡ o → o ≡ some p
      by none e = never (sym (none_left e m.limit p m.eligible) ∙ m.matches)
      by (some q) e = rw (same_match p q m (given q e))

pub next-event : NextEvent
next-event = record { given = given; only = only; none_left = none_left; over = over; unmatched = unmatched }
