-- Settings that are read, and a server that doesn't begin. Of a source it is told what it had left, and of source and sink how often they
-- had failed, before and behind.
use Rattle.std.specs.Prelude.{◌≡◌, ◌⊎◌, ℕ, List, Option, Result, Ok, Err}
use Rattle.base_outside.specs.whole_texts.Outside.{HasRead}
use Rattle.journal.specs.declared.disk_journal.journal.JournalError.{JournalError}
use Rattle.journal.specs.declared.disk_journal.journal.JournalError.TheVariants as causes
use Rattle.serve_command.specs.server_settings.Settings.{config_due}
use Rattle.serve_command.specs.declared.server_settings.refusal.SettingsRefusal.{SettingsRefusal}
use Rattle.serve_command.specs.declared.server_settings.settings.Setup.{Setup}
use Rattle.base_outside.specs.streams.Faults.{Rose}
use Rattle.base_outside.specs.declared.streams.address.Address.{Address}
use Rattle.serve_command.specs.Printing.{IsLeft, IsQuiet, Prints, PrintsIfRoom, journal_line, settings_line}
use Rattle.serve_command.specs.declared.ending.Ending.{Ending}
use Rattle.serve_command.specs.declared.ending.Ending.TheVariants.{DiskFailed, JournalFull, Memory, NoJournal, Settings, SourceFailed}

module _ (at : Address) (written written' : Option (List ℕ)) (sink sink' : ℕ) where
  -- a text tells these settings; or a line of it is refused, or one is missing, which is printed
  abbrev pub Takes : List ℕ → Result Setup Ending → Type 0
  Takes text (Ok setup) = (config_due at text ≡ Ok setup) × IsLeft written written' sink sink'
  Takes text (Err Memory) = IsLeft written written' sink sink'
  Takes text (Err ending) = (refusal : SettingsRefusal) × (config_due at text ≡ Err refusal)
      × Prints written written' sink sink' (settings_line refusal) Settings ending

-- The source was read to its end, or past the limit on a text's bytes, and settings were taken; or it failed, or memory ran out.
abbrev pub OpeningSettles : Address → (left left' : Option (List ℕ)) → (source source' : ℕ) → (written written' : Option (List ℕ))
    → (sink sink' : ℕ) → Result Setup Ending → Type 0
OpeningSettles at left left' source source' written written' sink sink' result =
    ((result ≡ Err SourceFailed) × Rose source source' × IsLeft written written' sink sink')
    ⊎ ((source' ≡ source) × (((result ≡ Err Memory) × IsLeft written written' sink sink')
    ⊎ ((text : List ℕ) × HasRead left left' text × Takes at written written' sink sink' text result)))

module _ (written written' : Option (List ℕ)) (sink sink' : ℕ) where
  -- how the command ends where a server can't begin on the disk
  abbrev pub IsUnbegun : JournalError → Ending → Type 0
  IsUnbegun causes.Memory ending = IsQuiet written written' sink sink' Memory ending
  IsUnbegun (causes.DiskFault n) ending = IsQuiet written written' sink sink' DiskFailed ending
  IsUnbegun (causes.Stopped n) ending = IsQuiet written written' sink sink' DiskFailed ending
  IsUnbegun (causes.Full would limit) ending = IsQuiet written written' sink sink' JournalFull ending
  IsUnbegun (causes.NotAJournal at) ending = PrintsIfRoom written written' sink sink' (journal_line at) NoJournal ending
