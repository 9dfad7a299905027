-- Entries that are gathered in memory, to be put behind one closed gate.
use Rattle.std.specs.Prelude.{◌≡◌, List, [], ◌∷◌, ◌++◌, ℕ}
use Rattle.spec_journal.specs.declared.form.Form.{Form}
use Rattle.spec_journal.specs.Forms.{form_opened}

-- What stands behind the gate of the first of these bodies: its entry, each further one behind an open gate, and a closed gate. Of none there
-- is nothing.
abbrev pub IsGroup : Form → List (List ℕ) → List ℕ → Type 0
IsGroup form [] group = group ≡ []
IsGroup form (body ∷ bodies) group = 1 ∷ group ≡ form_opened form (body ∷ bodies) ++ 0 ∷ []
