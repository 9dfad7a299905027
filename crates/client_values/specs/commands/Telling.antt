-- What a name of a listing adds to those that are told.
use Rattle.std.specs.Prelude.{ℕ, List, [], ◌∷◌, ◌||◌, if◌then◌else◌}
use Rattle.spec_exchange.specs.Content.{same_bytes}

-- nothing where it names the directory itself or the one above it
abbrev pub reply_told : List ℕ → List (List ℕ)
reply_told name = if same_bytes name (46 ∷ []) || same_bytes name (46 ∷ 46 ∷ []) then [] else name ∷ []
