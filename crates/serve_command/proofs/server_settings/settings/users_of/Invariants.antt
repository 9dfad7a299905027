use Rattle.std.proofs.Common.{◌≡◌, ◌++◌, drop}
use Rattle.serve_command.specs.server_settings.Settings.{users_of}
use Rattle.serve_command.proofs.server_settings.settings.users_of.Given as goal

abbrev pub invariant-loop-user : goal.invariant-loop-user
invariant-loop-user l = (l.list.list ++ users_of (drop l.user-index l.users) ≡ users_of l.users) × (l.list.bare ≡ l.bare)
