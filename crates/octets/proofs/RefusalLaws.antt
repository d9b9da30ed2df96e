-- Laws of refusals: no cause has number 0.
-- Assumes nothing.
use Rattle.std.proofs.Common.{◌≡◌, refl, true, false, arith, Result, Ok, Err}
use Rattle.std.specs.Result.{is_err}
use Rattle.octets.specs.declared.refusals.Cause.{Cause}
use Rattle.octets.specs.declared.refusals.Cause.TheVariants.{BadFrameLength, BadHeader, ZeroDialogToken, ElementPastEnd, ShortElement, BadElementToken, BadSubelement, RepeatedSubelement, TooManyElements, NoElement, GroupDestination, UnknownRequester, ShortBuffer, BadTime, BadRequesterList, BadIdentity, BadReportBody, NoLoggedEvent}
use Rattle.octets.specs.Refusals.{cause_number, number_unless}

pub some_number : (c : Cause) → cause_number c ≡ 0 → ⊥
some_number BadFrameLength e = omega arith
some_number BadHeader e = omega arith
some_number ZeroDialogToken e = omega arith
some_number ElementPastEnd e = omega arith
some_number ShortElement e = omega arith
some_number BadElementToken e = omega arith
some_number BadSubelement e = omega arith
some_number RepeatedSubelement e = omega arith
some_number TooManyElements e = omega arith
some_number NoElement e = omega arith
some_number GroupDestination e = omega arith
some_number UnknownRequester e = omega arith
some_number ShortBuffer e = omega arith
some_number BadTime e = omega arith
some_number BadRequesterList e = omega arith
some_number BadIdentity e = omega arith
some_number BadReportBody e = omega arith
some_number NoLoggedEvent e = omega arith

module _ {T : Type 0} where
  pub refused_number : (r : Result T Cause) → is_err r ≡ true → number_unless r ≡ 0 → ⊥
  refused_number (Ok x) e = cc
  refused_number (Err c) e = some_number c

  pub accepted_number : (r : Result T Cause) → is_err r ≡ false → number_unless r ≡ 0
  accepted_number (Ok x) e = refl
  accepted_number (Err c) e = cc
