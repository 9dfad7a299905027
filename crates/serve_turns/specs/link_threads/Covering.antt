-- Which of the links that were accepted have an end, or are being served.
use Rattle.std.specs.Prelude.{◌≡◌, ℕ, ◌<◌, ◌⊎◌, List, length, Option, None, Some, get_or}
use Rattle.std.specs.List.{Contains}

-- the list of ends has an end at this place
abbrev pub HasEnd : {X : Type 0} → List (Option X) → ℕ → Type 0
HasEnd {X} ends at = (end : X) × (get_or ends at None ≡ Some end)

-- one of these serves the link at this place
abbrev pub IsLinkServed : {R : Type 0} → (R → ℕ) → List R → ℕ → Type 0
IsLinkServed {R} place_of running at = (r : R) × Contains running r × (place_of r ≡ at)

-- each place below a count, of those that the list of ends has, has an end, or its link is being served
abbrev pub AreCovered : {X R : Type 0} → (R → ℕ) → ℕ → List (Option X) → List R → Type 0
AreCovered place_of count ends running = (at : ℕ) → at < count → at < length ends → HasEnd ends at ⊎ IsLinkServed place_of running at

-- each of these places has an end
abbrev pub HaveEnds : {X : Type 0} → ℕ → List (Option X) → Type 0
HaveEnds count ends = (at : ℕ) → at < count → at < length ends → HasEnd ends at
