use Rattle.std.proofs.Common.{◌∙◌}
use Rattle.drill_command.proofs.settling.linking.ups_of.Goals as goal

pub returns : goal.returns
returns c = c.len.ensures ∙ c.args.channel.now.up.ok.0
