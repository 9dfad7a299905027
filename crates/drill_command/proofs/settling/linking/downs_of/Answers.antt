use Rattle.std.proofs.Common.{◌∙◌}
use Rattle.drill_command.proofs.settling.linking.downs_of.Goals as goal

pub returns : goal.returns
returns c = c.len.ensures ∙ c.args.channel.now.down.ok.0
