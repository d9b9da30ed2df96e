-- `firmware::elements::elements_of` meets its contract. The invariant: the first i are made, the others blank.
-- Assumes nothing.
use Rattle.std.proofs.Common.{◌≡◌, map, ◌++◌, length, take, drop}
use Rattle.requests.specs.Elements.{element_capacity, blank_elements}
use Rattle.firmware.specs.Numbers.{element_from}
use Rattle.firmware.proofs.elements.elements_of.Given as goal

abbrev pub invariant-loop-i : goal.invariant-loop-i
invariant-loop-i l = (length l.elements ≡ element_capacity) × (l.elements ≡ map element_from (take l.i l.es) ++ drop l.i blank_elements)
