-- `report_listing::put_elements` meets its contract. The invariant, `Listed`: the elements that were handed out are written, and what is left of the walk gives the rest.
-- Assumes nothing.
use Rattle.std.proofs.Common.{sym, ap, ◌∙◌, arith}
use Rattle.report_reader.specs.Reader.{step_read}
use Rattle.report_reader.proofs.Laws.{goes_on, found_extent}
use Rattle.report_listing.proofs.Laws.{listed_start, listed_next, listed_end, accepted, step_ok}
use Rattle.report_listing.proofs.put_elements.Goals as goal

pub loop-cursor-init : goal.loop-cursor-init
loop-cursor-init c = rw c.first-cursor.ensures (listed_start _ _ _ _ _)

pub unwrap-step-requires : goal.unwrap-step-requires
unwrap-step-requires c = step_ok _ (accepted c.loop-cursor.invariant c.requires.0 c.requires.1 c.loop-cursor-test.true _ c.next.ensures)

pub put_step-requires : goal.put_step-requires
put_step-requires c f = (found_extent _ _ _ _ _ (ap step_read (sym c.unwrap-step.ensures) ∙ c.next.ensures) f).within

pub loop-cursor-smaller : goal.loop-cursor-smaller
loop-cursor-smaller c = let is = ap step_read (sym c.unwrap-step.ensures) ∙ c.next.ensures in
    let no = accepted c.loop-cursor.invariant c.requires.0 c.requires.1 c.loop-cursor-test.true _ is in
    omega (arith, (goes_on _ _ _ _ _ is no).on, c.loop-cursor-test.true)

pub loop-cursor-preserved : goal.loop-cursor-preserved
loop-cursor-preserved c = listed_next c.loop-cursor.invariant c.requires.0 c.requires.1 c.loop-cursor-test.true _ (ap step_read (sym c.unwrap-step.ensures) ∙ c.next.ensures) c.put_step.ensures

pub returns : goal.returns
returns c = listed_end c.loop-cursor.invariant c.requires.0 c.requires.1 c.loop-cursor-test.false
