use Rattle.server_effects.proofs.Steps.{config_kept, logons_kept}
use Rattle.server_effects.proofs.reached.tell.Goals as goal

pub returns-clause-shows : goal.returns-clause-shows
returns-clause-shows c = λ now s f h a. record {
  shows = c.reach.ensures.shows s h a;
  reply = c.quiet.ensures.reply;
  acted = c.quiet.ensures.acted_is;
}

pub returns-clause-bare : goal.returns-clause-bare
returns-clause-bare c = c.quiet.ensures.bare

pub returns-clause-config : goal.returns-clause-config
returns-clause-config c = config_kept c.args.t.now c.reach.new.t _ c.reach.ensures.kept

pub returns-clause-logons : goal.returns-clause-logons
returns-clause-logons c = logons_kept c.args.t.now c.reach.new.t _ c.reach.ensures.kept
