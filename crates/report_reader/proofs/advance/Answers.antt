-- `report_reader::advance` meets its contract: the verdict has what the step has, and the walk what the reading has.
-- Assumes nothing.
use Rattle.std.proofs.Common.{◌≡◌, ◌⊎◌, inl, inr, refl, ℕ, true, [], ◌∷◌, sym, ap, ◌∙◌, length-append}
use Rattle.laws.specs.Choice.{when◌then◌else◌}
use Rattle.octets.specs.Refusals.{no_refusal}
use Rattle.report_reader.specs.declared.Verdict.{Verdict as CodeVerdict}
use Rattle.report_reader.specs.declared.Verdict.TheVariants.{Plain, Logged}
use Rattle.report_reader.specs.Reader.{element_read_at, gathered}
use Rattle.report_reader.specs.Internal.{Verdict, Walk, verdict_of, verdict_given}
use Rattle.report_reader.proofs.advance.Goals as goal

-- what is found, with an event or with none
found : (v : CodeVerdict) (next : ℕ) → ((subs : ℕ) × (v ≡ Plain next subs)) ⊎ (v ≡ Logged next)
    → ((verdict_given v).refusal ≡ no_refusal) × ((verdict_given v).found ≡ true) × ((verdict_given v).next ≡ next)
found v next (inl p) = rw p.1 (refl, refl, refl)
found v next (inr p) = rw p (refl, refl, refl)

pub returns-in-Plain : goal.returns-in-Plain
unfolding gathered verdict_of when◌then◌else◌
returns-in-Plain c form s x t p e = let f = found _ _ c.in-Plain.is in
    rw (c.counted.ensures, ← sym f.0 ∙ ap (λ (v : Verdict). v.refusal) e, ← sym f.1 ∙ ap (λ (v : Verdict). v.found) e, ← sym f.2 ∙ ap (λ (v : Verdict). v.next) e, length-append x.elements (element_read_at form s t ∷ []), ← ap (λ (w : Walk). w.count) p)
