-- The dialog token of a requester's outstanding request.
-- Assumes nothing.
use Rattle.std.specs.Prelude.{ℕ}
use Rattle.std.proofs.Math.Option.{Option, none, some, map}
use Rattle.octets.specs.declared.numbers.Kind.{Kind}
use Rattle.octets.specs.declared.numbers.Kind.TheVariants.{Event, Diagnostic}
use Rattle.model.specs.Model.{Address, Requester, Station}
use Rattle.model.specs.Requesters.{find}

-- of each kind; none where no request is outstanding
unfoldable pub dialog_of : Kind → Requester → Option ℕ
dialog_of Event r = map (λ q. q.dialog) r.events
dialog_of Diagnostic r = map (λ q. q.dialog) r.diagnostics

unfoldable pub dialog_in : Kind → Option Requester → Option ℕ
dialog_in kind none = none
dialog_in kind (some r) = dialog_of kind r

-- of the requester at an address
abbrev pub outstanding_dialog : Kind → Address → Station → Option ℕ
outstanding_dialog kind s g = dialog_in kind (find s g.requesters)
