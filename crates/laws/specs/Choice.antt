-- A choice by a test, beside the library's `if b then x else y`, which is open: this one is shut, so that a proof sees each call of it
-- as it is written.
-- Assumes nothing.
use Rattle.std.specs.Prelude.{Bool, true, false}

infixr 2 when◌then◌else◌
unfoldable pub when◌then◌else◌ : {A : Type 0} → Bool → A → A → A
when true then x else y = x
when false then x else y = y
