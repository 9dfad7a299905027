use Rattle.std.proofs.Common.{◌≡◌, false, map, take}
use Rattle.law_scripts.specs.script_setup.Scripts.{user_of}
use Rattle.drill_command.proofs.drill_setup.setting.users_of.Given as goal

abbrev pub invariant-loop-user : goal.invariant-loop-user
invariant-loop-user l = l.copied ≡ record { list = map user_of (take l.user-index l.users); bare = false }
