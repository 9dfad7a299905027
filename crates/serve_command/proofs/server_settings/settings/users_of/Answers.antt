use Rattle.std.proofs.Common.{arith}
use Rattle.serve_command.proofs.server_settings.Users.{users_on}
use Rattle.serve_command.proofs.server_settings.settings.users_of.Goals as goal

pub loop-user-preserved : goal.loop-user-preserved
loop-user-preserved c = users_on c.args.users.now c.loop-user.user-index c.user-item.result c.args.bare c.loop-user.list c.add_user.new.list
    (grind arith) c.user-item.is c.in_ok-add_user.ensures c.loop-user.invariant
