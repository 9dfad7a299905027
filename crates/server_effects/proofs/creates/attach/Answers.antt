use Rattle.std.proofs.Common.{ap, ◌∙◌}
use Rattle.wire_commands.specs.values.Meaning.{command_of, message_of}
use Rattle.spec_exchange.specs.Status.{success}
use Rattle.server_effects.proofs.Steps.{config_kept, logons_kept}
use Rattle.server_effects.proofs.Told.{said}
use Rattle.server_checks.specs.verdicts.Views.{create_in}
use Rattle.server_effects.proofs.creates.attach.Goals as goal

pub returns-clause-shows : goal.returns-clause-shows
returns-clause-shows c = λ now s f h a.
    let r = create_in (command_of c.args.m.now.command) in
    let b = c.create_reply-body.ensures s r (f.open_files c.args.id a.0) h a.0 c.asked.ensures in
    record {
      shows = c.take_up.ensures.shows s h a.0;
      reply = c.quiet.ensures.reply ∙ ap (said (message_of c.args.m.now) success) b;
      acted = c.quiet.ensures.acted_is;
    }

pub returns-clause-bare : goal.returns-clause-bare
returns-clause-bare c = c.quiet.ensures.bare

pub returns-clause-config : goal.returns-clause-config
returns-clause-config c = config_kept c.args.t.now c.take_up.new.t _ c.take_up.ensures.kept

pub returns-clause-logons : goal.returns-clause-logons
returns-clause-logons c = logons_kept c.args.t.now c.take_up.new.t _ c.take_up.ensures.kept
