-- `requests::subelements_of` meets its contract: an element is at most 257 octets long, so it has fewer than 256 subelements.
-- Assumes nothing.
use Rattle.std.proofs.Common.{ap, ap₂, ◌∙◌, ℕ}
use Rattle.subelements.specs.Subelements.{walk}
use Rattle.requests.specs.Elements.{table_of}
use Rattle.requests.proofs.Laws.{subelements-from, subelements_few}
use Rattle.requests.proofs.subelements_of.Goals as goal

pub returns : goal.returns
returns c = let a = c.args in
    let s = a.s.now in
    let t = c.table_of-ty.ensures ∙ ap (table_of a.kind) c.octet.ensures in
    let e = c.walk.ensures ∙ ap₂ (λ (ty from : ℕ). walk s ty from a.end) t c.subelements_start.ensures ∙ subelements-from s a.kind a.at a.end in
    record { walked = e; few = rw e (subelements_few s a.kind a.at a.end c.requires.1) }
