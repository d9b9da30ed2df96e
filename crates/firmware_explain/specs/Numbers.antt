-- The numbers of an explanation for C: document 02 (f)'s reasons in their order, from 1 on, a condition with its ID; 0 refused, by a number
-- at a place.
-- Assumes nothing.
use Rattle.std.specs.Prelude.{ℕ}
use Rattle.explanations.specs.Explanations.{Explanation as LibraryExplanation, Refused, LoggedAfter, WrongType, Unmet, LimitReached, Reported}
use Rattle.firmware_explain.specs.declared.Explanation.{Explanation}

abbrev pub explained : ℕ → ℕ → ℕ → ℕ → Explanation
explained reason condition cause place = record { reason = reason; condition = condition; cause = cause; place = place }

unfoldable pub numbered_explanation : LibraryExplanation → Explanation
numbered_explanation LoggedAfter = explained 1 0 0 0
numbered_explanation WrongType = explained 2 0 0 0
numbered_explanation (Unmet id) = explained 3 id 0 0
numbered_explanation LimitReached = explained 4 0 0 0
numbered_explanation Reported = explained 5 0 0 0
numbered_explanation (Refused r) = explained 0 0 r.number r.place
