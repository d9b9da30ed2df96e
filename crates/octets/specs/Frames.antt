-- Document 01: "Octets 0, 1, 2: category 10, action, dialog token": what request and report frames have in common.
-- Assumes nothing.
use Rattle.std.specs.Prelude.{ℕ, not, List, length, get_or, ltb, eqb}
use Rattle.laws.specs.Choice.{when◌then◌else◌}
use Rattle.octets.specs.declared.numbers.Kind.{Kind}
use Rattle.octets.specs.declared.numbers.Kind.TheVariants.{Event, Diagnostic}
use Rattle.octets.specs.Numbers.{category, shortest_frame, longest_frame}
use Rattle.octets.specs.Refusals.{bad_frame_length, bad_header}

-- the kind that a frame is read as, by the action of a diagnostic's: any other is held to the event's, by frame_cause
unfoldable pub frame_kind : List ℕ → ℕ → Kind
frame_kind s diagnostic = when eqb (get_or s 1 0) diagnostic then Diagnostic else Event

-- "Frame under 3 or over 2,304 octets" (1), "Category not 10; action not" that of its kind (2), in this order; 0: neither
unfoldable pub frame_cause : List ℕ → ℕ → ℕ
frame_cause s action =
    when ltb (length s) shortest_frame then bad_frame_length
    else when ltb longest_frame (length s) then bad_frame_length
    else when not (eqb (get_or s 0 0) category) then bad_header
    else when not (eqb (get_or s 1 0) action) then bad_header
    else 0
