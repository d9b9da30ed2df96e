-- Nobody has to believe this file: it has what the contracts of functions inside this crate speak of.
-- Where an element's subelements start.
-- Assumes nothing.
use Rattle.std.specs.Prelude.{ℕ, ◌+◌, List, get_or, ltb}
use Rattle.laws.specs.Choice.{when◌then◌else◌}
use Rattle.octets.specs.declared.numbers.Kind.{Kind}
use Rattle.octets.specs.declared.numbers.Kind.TheVariants.{Event, Diagnostic}
use Rattle.subelements.specs.Subelements.{tables}

-- from the element's end where none are read: proofs/Laws.antt has walk s (table_of kind ty) (subelements_start s kind at end) end ≡
-- subelements_of s kind at end, for the type ty at at + 3
unfoldable pub subelements_start : List ℕ → Kind → ℕ → ℕ → ℕ
subelements_start s Event at end = when ltb (get_or s (at + 3) 0) tables then at + 5 else end
subelements_start s Diagnostic at end = at + 6
