-- How the command ends, with the cause of each ending.
use Rattle.std.specs.Prelude.{◌≡◌, ◌⊎◌, ℕ, List, Option, Some, Ok, Err}
use Rattle.journal.specs.declared.disk_journal.journal.JournalError.{JournalError}
use Rattle.serve_command.specs.declared.server_settings.words.Said.{Said}
use Rattle.serve_command.specs.declared.server_settings.settings.Setup.{Setup}
use Rattle.base_outside.specs.declared.streams.address.Address.{Address}
use Rattle.serve_command.specs.Opening.{OpeningSettles}
use Rattle.serve_command.specs.Serving.{Starts}
use Rattle.serve_command.specs.declared.ending.Ending.{Ending}
use Rattle.serve_turns.specs.link_serving.Passage.{Passage}

-- It ended with the settings, and neither disk nor net were used; or it had settings and printed nothing so far.
abbrev pub ServingEnds : {D N : Type 0} → Type 0 → (D → List ℕ) → (D → List ℕ → Type 0) → (D → ℕ) → (N → Option Address) → (N → ℕ) → (N → ℕ)
    → Type 0 → (N → List (List ℕ)) → ((net net' : N) → ℕ → Passage → Type 0) → ((disk left : D) → JournalError → Type 0) → Said → D → (left left' : Option (List ℕ)) →
    (source source' : ℕ) → (written written' : Option (List ℕ)) → (sink sink' : ℕ)
    → (net net' : N) → Option D → Ending → Type 0
ServingEnds told seen may_leave faults listens_at links net_faults link_told sent over refuses said disk left left' source source' written written'
    sink sink' net net' disk'
    ending =
    (OpeningSettles said.address left left' source source' written written' sink sink' (Err ending) × (net' ≡ net) × (disk' ≡ Some disk))
    ⊎ ((setup : Setup) × (between : Option (List ℕ)) × (calm : ℕ)
    × OpeningSettles said.address left left' source source' written between sink calm (Ok setup)
    × Starts told seen may_leave faults listens_at links net_faults link_told sent over refuses said setup.config disk between written' calm sink'
    net net' disk'
    ending)
