-- The lengths of the arrays inside elements, which code has by their types.
-- Assumes nothing.
use Rattle.std.proofs.Common.{List, [], ◌∷◌, map, rules}
use mir.Val.{Val}
use base.Fml.{Fml}
use denote.Array.{each}
use denote.Shadow.{shadow}
use Rattle.laws.proofs.Older.{e_struct}
use Rattle.requests.specs.contracts.Element.{the_type}
use Rattle.requests.proofs.Element.TheLaws.{the_laws, the_copy}
use Rattle.laws.specs.Members.{All, nil, also}
use Rattle.requests.specs.declared.Element.{Element}
use Rattle.request_writer.specs.ReadBack.{ElementLengths}

-- ---- general

-- what owning an array tells of all its elements; inside a struct, its elements are mapped
pub each_all : {D : Type 0} {P : D → Type 0} (f : D → List Val → Fml)
    → ((x : D) (u : Val) → shadow (f x (u ∷ [])) → P x)
    → (xs : List D) (us : List Val) → shadow (each D f xs us) → All P xs
each_all f tells [] us p = nil
each_all f tells (x ∷ xs) [] p = absurd p
each_all f tells (x ∷ xs) (u ∷ us) p = also (tells x u p.0) (each_all f tells xs us p.1)

pub each_mapped : {D E : Type 0} {P : D → Type 0} (f : E → List Val → Fml) (into : D → E)
    → ((x : D) (u : Val) → shadow (f (into x) (u ∷ [])) → P x)
    → (xs : List D) (us : List Val) → shadow (each E f (map into xs) us) → All P xs
each_mapped f into tells [] us p = nil
each_mapped f into tells (x ∷ xs) [] p = absurd p
each_mapped f into tells (x ∷ xs) (u ∷ us) p = also (tells x u p.0) (each_mapped f into tells xs us p.1)

-- ---- an array of elements has the lengths of its parts

pub shaped : (es : List Element) (us : List Val) → shadow (each Element (e_struct the_type the_laws the_copy).ty.own_val es us) → All ElementLengths es
shaped =
    each_all (e_struct the_type the_laws the_copy).ty.own_val
    (λ x u p.
    record {
      filter = let h = p.1.1.1.1.1.1.1.0 in search rules;
      octets = each_all (Rattle.subelements.specs.contracts.Condition.the_row).own_val (λ y v q. let h = q.1.1.0 in search rules) x.filter _ p.1.1.1.1.1.1.1.0.1.1;
    })
