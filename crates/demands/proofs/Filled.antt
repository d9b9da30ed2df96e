-- A frame that is filled from a request tells what the request gives, for any kind of request.
-- Assumes nothing.
use Rattle.std.proofs.Common.{ℕ, zero, suc, ◌-◌, ◌≡◌, refl, ap, ◌∙◌, List, [], ◌∷◌, ◌++◌, length}
use Rattle.std.proofs.Math.Option.{Option, none, some}
use Rattle.laws.specs.Members.{All, nil, also}
use Rattle.laws.specs.Buffers.{pieces}
use Rattle.laws.proofs.Pieces.{pieces-from}
use Rattle.laws.proofs.Choice.{either}
use Rattle.octets.specs.declared.numbers.Kind.{Kind}
use Rattle.model.specs.Fill.{Piece, nothing_more, before, fill_with, fill}
use Rattle.report_reader.specs.Contents.{Content, content_octets}
use Rattle.demands.specs.StationRoundTrip.{Gives, over, gives}

-- octets that tell something in a form, of which Good holds
pub record Tells (form : ℕ) (kind : Kind) (Good : Content kind → Type 0) (o : List ℕ) : Type 0 where
  pub content : Content kind
  pub octets : o ≡ content_octets form kind content
  pub good : Good content

-- what was filled from a request r tells what r gives
pub record Filled {R : Type 0} (form : ℕ) (kind : Kind) (next : R → Option (Piece R)) (Good : Content kind → Type 0) (r : R) (p : Piece R) : Type 0 where
  pub contents : List (Content kind)
  pub gives : Gives form kind next r contents p.rest
  pub octets : p.octets ≡ pieces (λ _ x. content_octets form kind x) 0 contents
  pub good : All Good contents

module _ {R : Type 0} (form : ℕ) (kind : Kind) (next : R → Option (Piece R)) (Good : Content kind → Type 0) where
  none_told : (r : R) → Filled form kind next Good r (nothing_more r)
  unfolding pieces
  none_told r = record { contents = []; gives = over; octets = refl; good = nil }

  one_told : (r : R) (p : Piece R) → next r ≡ some p → Tells form kind Good p.octets → (q : Piece R) → Filled form kind next Good p.rest q → Filled form kind next Good r (before p.octets q)
  unfolding pieces
  one_told r p e x q f = record {
    contents = x.content ∷ f.contents;
    gives = gives (e ∙ ap (λ (o : List ℕ). some (record { octets = o; rest = p.rest })) x.octets) f.gives;
    octets = rw (x.octets, f.octets) (ap (λ (o : List ℕ). content_octets form kind x.content ++ o) (pieces-from (content_octets form kind) 0 1 f.contents));
    good = also x.good f.good;
  }

  module _ (tells : (r : R) (p : Piece R) → next r ≡ some p → Tells form kind Good p.octets) where
    pub fill_tells : (fuel room : ℕ) (r : R) → Filled form kind next Good r (fill next fuel room r)
    unfolding fill fill_with
    fill_tells zero room r = none_told r
    fill_tells (suc fuel) room r = by_next (next r) refl (fill_tells fuel)
      where
        by_next : (o : Option (Piece R)) → next r ≡ o → ((k : ℕ) (q : R) → Filled form kind next Good q (fill next fuel k q))
            → Filled form kind next Good r (fill_with r room (λ p. fill next fuel (room - length p.octets) p.rest) o)
        by_next none e ih = none_told r
        by_next (some p) e ih = either (Filled form kind next Good r) _ _ _ (λ _. one_told r p e (tells r p e) _ (ih (room - length p.octets) p.rest)) (λ _. none_told r)
