-- Requests that name no path.
use Rattle.std.proofs.Common.{◌≡◌, ℕ, Bool, List, [], refl}
use Rattle.wire_commands.specs.values.Meaning.{command_of, setting_of}
use Rattle.wire_commands.specs.declared.values.command.Command.{Command}
use Rattle.wire_commands.specs.declared.values.command.Command.TheVariants as commands
use Rattle.wire_commands.specs.declared.values.command.Setting.{Setting}
use Rattle.wire_commands.specs.declared.values.command.Setting.TheVariants as settings
use Rattle.server_checks.specs.verdicts.Views.{path_in, path_in_setting}

pub other_path : (c : Command) → ((file : ℕ) (setting : Setting) → c ≡ commands.SetInfo file setting → ⊥) → [] ≡ path_in (command_of c)
other_path (commands.SetInfo file setting) h = absurd (h file setting refl)
other_path _ h = refl

pub other_setting : (t : Setting) → ((replace : Bool) (path : List ℕ) → t ≡ settings.Rename replace path → ⊥)
    → [] ≡ path_in_setting (setting_of t)
other_setting (settings.Rename replace path) h = absurd (h replace path refl)
other_setting _ h = refl
