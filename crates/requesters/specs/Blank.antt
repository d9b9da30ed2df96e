-- A requester without requests, in all places of the code's struct: nothing is left of a request before.
-- Assumes nothing.
use Rattle.std.specs.Prelude.{false, replicate}
use Rattle.requests.specs.Elements.{element_capacity, blank_elements}
use Rattle.model.specs.declared.Diagnostic.{Diagnostic}
use Rattle.model.specs.Model.{Listed, listed_address, listed_form}
use Rattle.requesters.specs.declared.EventRequest.{EventRequest}
use Rattle.requesters.specs.declared.DiagnosticRequest.{DiagnosticRequest}
use Rattle.requesters.specs.declared.Requester.{Requester}

-- no request is outstanding, and none has left anything
abbrev pub blank_events : EventRequest
blank_events = record { outstanding = false; dialog = 0; mark = 0; progress = record { first = 0; given = 0; below = 0 }; count = 0; elements = blank_elements }

abbrev pub blank_diagnostic : Diagnostic
blank_diagnostic = record { token = 0; ty = 0; timeout = 0 }

abbrev pub blank_diagnostics : DiagnosticRequest
blank_diagnostics = record { outstanding = false; dialog = 0; accepted = record { 0 = 0 }; first = 0; count = 0; elements = replicate element_capacity blank_diagnostic }

abbrev pub blank_requester : Listed → Requester
blank_requester x = record { address = listed_address x; form = listed_form x; events = blank_events; diagnostics = blank_diagnostics }
