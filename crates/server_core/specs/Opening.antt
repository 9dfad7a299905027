-- What a recovery writes down in front of its epoch.
use Rattle.std.specs.Prelude.{ℕ, ◌==◌, if◌then◌else◌, List, [], ◌∷◌}
use Rattle.journal_bytes.specs.declared.record_bytes.value.Record.{Record}
use Rattle.journal_bytes.specs.declared.record_bytes.value.Record.TheVariants.{Version}

abbrev pub versions_of : ℕ → List Record
versions_of version = if version == 1 then Version 2 ∷ [] else []
