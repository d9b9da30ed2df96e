-- Laws of the decoders: what stands behind so many octets; so many from the front; and that fields are read of as many as they have.
-- Assumes nothing.
use Rattle.std.proofs.Common.{ℕ, zero, suc, ◌+◌, ◌≤◌, ◌<◌, ◌≡◌, refl, sym, ap, ◌∙◌, List, [], ◌∷◌, ◌++◌, append-nil, zero-add, add-zero, arith, eqb, length, get_or, drop, length-append, length-drop, drop_of_length-le}
use Rattle.laws.proofs.Choice.{either}
use Rattle.laws.specs.Buffers.{WrittenBuffer, wrote, put_at}
use Rattle.laws.proofs.Buffers.{put_at-fits}
use Rattle.octets.specs.Fields.{octets_at}
use Rattle.octets.proofs.PlaceLaws.{octets-length, octets_stand, octets_part, octets_copied}
use Rattle.subelements.specs.Subelements.{length_of, body_octet, body_at}
use Rattle.events.specs.declared.times.Times.{Times}
use Rattle.events.specs.Transitions.{transition_length, source_of, target_of, took_of, reason_of, result_of, signals_of}
use Rattle.events.specs.RsnaEvents.{method_length, rsn_length, rsna_target_of, authentication_of, method_of, rsna_result_of, rsn_element_of}
use Rattle.events.specs.PeerLinks.{peer_link_length, peer_of, class_of, channel_of, power_of, connection_of, peer_status_of}
use Rattle.report_reader.specs.Decoders.{times_in, body_in, transition_in, rsna_in, peer_link_in}

-- ---- octets that agree up to a place

module _ (x y : List ℕ) (m : ℕ) (same : (k : ℕ) → k < m → get_or x k 0 ≡ get_or y k 0) where
  octets-same : (n k : ℕ) → k + n ≤ m → octets_at x k n ≡ octets_at y k n
  unfolding octets_at
  octets-same zero k h = refl
  octets-same (suc n) k h = rw (same k (omega arith), octets-same n (k + 1) (omega arith))

-- ---- so many octets from the front: as they stand, or fewer with zeros behind them

octet_of : (s : List ℕ) (n at k : ℕ) → k < n → get_or (octets_at s at n) k 0 ≡ get_or s (at + k) 0
unfolding octets_at
octet_of s zero at k h = absurd (omega arith)
octet_of s (suc n) at zero h = ap (λ (i : ℕ). get_or s i 0) (sym (add-zero at))
octet_of s (suc n) at (suc k) h =
    let e : at + 1 + k ≡ at + suc k = omega arith in
    octet_of s n (at + 1) k (omega arith) ∙ ap (λ (i : ℕ). get_or s i 0) e

zeros : (n at k : ℕ) → get_or (octets_at [] at n) k 0 ≡ 0
unfolding octets_at
zeros zero at k = refl
zeros (suc n) at zero = refl
zeros (suc n) at (suc k) = zeros n (at + 1) k

padded-same : (o z : List ℕ) → ((k : ℕ) → get_or z k 0 ≡ 0) → (k : ℕ) → get_or (o ++ drop (length o) z) k 0 ≡ get_or o k 0
padded-same [] z h k = h k
padded-same (x ∷ o) z h zero = refl
padded-same (x ∷ o) [] h (suc k) =
    let none : List ℕ = [] in
    let e : drop (length o) none ≡ none = drop_of_length-le none {i = length o} (omega arith) in
    ap (λ (r : List ℕ). get_or (o ++ r) k 0) (sym e) ∙ padded-same o [] (λ i. refl) k
padded-same (x ∷ o) (y ∷ z) h (suc k) = padded-same o z (λ i. h (suc i)) k

pub first-padded : (o z w : List ℕ) (n m : ℕ) → length z ≡ m → z ≡ octets_at [] 0 m → length o < m → wrote n w ≡ put_at o 0 z → w ≡ octets_at o 0 m
first-padded o z w n m size e h does =
    let is : w ≡ o ++ drop (length o) z = ap (λ (b : WrittenBuffer). b.octets) (does ∙ put_at-fits o 0 z (omega (arith, size, h))) in
    let long : length w ≡ m = ap length is ∙ length-append o (drop (length o) z) ∙ omega (arith, length-drop (length o) z) in
    sym (octets_stand w 0 m w [] long (sym (append-nil w)))
    ∙ octets-same w o m (λ k _. rw (is, e) (padded-same o (octets_at [] 0 m) (zeros m 0) k)) m 0 (omega arith)

-- ---- what is read of so many octets from the front is what is read of all

first_octet : (o : List ℕ) (n k : ℕ) → k < n → get_or (octets_at o 0 n) k 0 ≡ get_or o k 0
first_octet o n k h = octet_of o n 0 k h ∙ ap (λ (i : ℕ). get_or o i 0) (zero-add k)

pub first-octets : (o : List ℕ) (n m k : ℕ) → k + m ≤ n → octets_at (octets_at o 0 n) k m ≡ octets_at o k m
first-octets o n = octets-same (octets_at o 0 n) o n (first_octet o n)

-- and they are so many
pub first-length : (o w : List ℕ) (m n : ℕ) → w ≡ octets_at o 0 m → m ≡ n → n ≤ length w
first-length o w m n e l = omega (arith, ap length e, octets-length o m 0, l)

-- an EAP method, in the first 19 octets of a body
method_most : (first : ℕ) → method_length first ≤ 8
unfolding length_of
method_most first = either (λ (n : ℕ). n ≤ 8) (eqb first 254) 8 1 (λ _. omega arith) (λ _. omega arith)

front_body : (o : List ℕ) (n : ℕ) → body_at (octets_at o 0 19) 10 n ≡ body_at o 10 n
unfolding body_at body_octet
front_body o n =
    let e : (k : ℕ) → k < 19 → get_or (octets_at o 0 19) k 0 ≡ get_or o k 0 = first_octet o 19 in
    rw (e 10 (omega arith), e 11 (omega arith), e 12 (omega arith), e 13 (omega arith), e 14 (omega arith), e 15 (omega arith), e 16 (omega arith), e 17 (omega arith))

-- an event of each kind, by its time fields and the first octets of its body
module _ (form : ℕ) (o : List ℕ) (times : Times) (body : List ℕ) (t : times ≡ times_in form o) where
  abbrev whole : List ℕ
  whole = body_in form o

  pub transition-read : body ≡ octets_at whole 0 transition_length
      → record { times = times; source = source_of body; target = target_of body; took = record { 0 = took_of body }; reason = reason_of body; result = result_of body; signals = signals_of body } ≡ transition_in form o
  unfolding transition_in
  transition-read b =
      let f : (m k : ℕ) → k + m ≤ 21 → octets_at (octets_at whole 0 21) k m ≡ octets_at whole k m = first-octets whole 21 in
      let e : (k : ℕ) → k < 21 → get_or (octets_at whole 0 21) k 0 ≡ get_or whole k 0 = first_octet whole 21 in
      rw (t, b, f 6 0 (omega arith), f 6 6 (omega arith), f 4 17 (omega arith), e 12 (omega arith), e 13 (omega arith), e 14 (omega arith), e 15 (omega arith), e 16 (omega arith))

  pub peer_link-read : body ≡ octets_at whole 0 peer_link_length
      → record { times = times; peer = peer_of body; class = class_of body; channel = channel_of body; power = power_of body; connection = connection_of body; status = peer_status_of body } ≡ peer_link_in form o
  unfolding peer_link_in
  peer_link-read b =
      let f : (m k : ℕ) → k + m ≤ 13 → octets_at (octets_at whole 0 13) k m ≡ octets_at whole k m = first-octets whole 13 in
      let e : (k : ℕ) → k < 13 → get_or (octets_at whole 0 13) k 0 ≡ get_or whole k 0 = first_octet whole 13 in
      rw (t, b, f 6 0 (omega arith), f 3 9 (omega arith), e 6 (omega arith), e 7 (omega arith), e 8 (omega arith), e 12 (omega arith))

  -- and its RSN element, by its octets
  pub rsna-read : body ≡ octets_at whole 0 19 → (element rsn : List ℕ) → element ≡ rsn_element_of whole → rsn ≡ octets_at element 0 rsn_length
      → record { times = times; target = rsna_target_of body; authentication = authentication_of body; method = method_of body; result = rsna_result_of body; rsn = rsn; size = length element } ≡ rsna_in form o
  unfolding rsna_in
  rsna-read b element rsn p q =
      let f : (m k : ℕ) → k + m ≤ 19 → octets_at (octets_at whole 0 19) k m ≡ octets_at whole k m = first-octets whole 19 in
      let e : (k : ℕ) → k < 19 → get_or (octets_at whole 0 19) k 0 ≡ get_or whole k 0 = first_octet whole 19 in
      let n = method_length (get_or whole 10 0) in
      rw (t, q, p, b, f 6 0 (omega arith), f 4 6 (omega arith), e 10 (omega arith), front_body whole n, e (10 + n) (omega (arith, method_most (get_or whole 10 0))))

-- what the check may use of them
pub ruleset firsts = (first-length, first-octets, octets_part, octets_copied)
