-- One element by itself: each test on the way to a return of its reader.
-- Assumes nothing.
use Rattle.std.proofs.Common.{ℕ, ◌≤◌, ◌<◌, ◌≡◌, ◌∙◌, true, false, List, length, get_or, eq-eqb, ne_eqb, lt-ltb, le-ltb, arith}
use Rattle.laws.specs.Members.{any}
use Rattle.laws.specs.Choice.{when◌then◌else◌}
use Rattle.octets.specs.declared.numbers.Kind.TheVariants.{Event}
use Rattle.octets.specs.Refusals.{no_refusal, element_past_end, short_element, bad_element_token}
use Rattle.octets.specs.Numbers.{request_id}
use Rattle.octets.specs.Elements.{piece_end}
use Rattle.octets.proofs.ElementLaws.{piece_ends}
use Rattle.subelements.specs.Subelements.{Subelements}
use Rattle.requests.specs.Elements.{least_body, zero_token, subelements_of, element_of, bad_token, with_element, own_request_step}
use Rattle.requests.specs.OneElement.{refused_one, read_element}

module _ (s : List ℕ) {end : ℕ} (e : end ≡ piece_end s 0 (length s)) where
  pub one-past_end : end ≡ 0 → refused_one element_past_end 0 ≡ read_element s
  unfolding read_element when◌then◌else◌
  one-past_end z = rw (← e, eq-eqb end 0 z)

  module _ (z : end ≡ 0 → ⊥) where
    pub one-behind : (end ≡ length s → ⊥) → refused_one element_past_end 0 ≡ read_element s
    unfolding read_element when◌then◌else◌
    one-behind l = rw (← e, ne_eqb end 0 z, ne_eqb end (length s) l)

    -- an element's length is one octet
    pub one-within : get_or s 1 0 < 256 → end ≤ 257
    one-within h = omega (arith, (piece_ends s 0 (length s) (λ y. z (e ∙ y))).is, e)

    module _ (l : end ≡ length s) where
      pub one-other : (get_or s 0 0 ≡ request_id Event → ⊥) → refused_one element_past_end 0 ≡ read_element s
      unfolding read_element when◌then◌else◌
      one-other i = rw (← e, ne_eqb end 0 z, eq-eqb end (length s) l, ne_eqb _ _ i)

      module _ (i : get_or s 0 0 ≡ request_id Event) where
        pub one-short : get_or s 1 0 < least_body Event → refused_one short_element 0 ≡ read_element s
        unfolding read_element own_request_step when◌then◌else◌
        one-short h = rw (← e, ne_eqb end 0 z, eq-eqb end (length s) l, eq-eqb _ _ i, lt-ltb _ _ h)

        module _ (h : least_body Event ≤ get_or s 1 0) where
          pub one_token : zero_token Event (get_or s 2 0) ≡ true → refused_one bad_element_token 0 ≡ read_element s
          unfolding read_element own_request_step bad_token when◌then◌else◌
          one_token t = rw (← e, ne_eqb end 0 z, eq-eqb end (length s) l, eq-eqb _ _ i, le-ltb _ _ h, t)

          module _ (t : zero_token Event (get_or s 2 0) ≡ false) (subs : Subelements) (w : subs ≡ subelements_of s Event 0 end) where
            pub one-refused : (subs.refusal.number ≡ 0 → ⊥) → refused_one subs.refusal.number subs.refusal.place ≡ read_element s
            unfolding read_element own_request_step bad_token with_element any when◌then◌else◌
            one-refused n = rw (← e, ne_eqb end 0 z, eq-eqb end (length s) l, eq-eqb _ _ i, le-ltb _ _ h, t, ← l, ← w, ne_eqb _ 0 n)

            pub one_found : subs.refusal.number ≡ 0 → record { refusal = no_refusal; element = element_of s Event 0 subs } ≡ read_element s
            unfolding read_element own_request_step bad_token with_element any when◌then◌else◌
            one_found n = rw (← e, ne_eqb end 0 z, eq-eqb end (length s) l, eq-eqb _ _ i, le-ltb _ _ h, t, ← l, ← w, eq-eqb _ 0 n)
