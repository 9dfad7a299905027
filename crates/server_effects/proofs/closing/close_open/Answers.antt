use Rattle.server_effects.proofs.closing.close_open.Goals as goal

pub returns-clause-shows : goal.returns-clause-shows
returns-clause-shows c = λ now s f h a. record {
  shows = c.close_one.ensures.shows s c.args.m.now.session_id f h a.0 a.1;
  reply = c.acting.ensures.reply;
  acted = c.acting.ensures.acted_is;
}

pub returns-clause-bare : goal.returns-clause-bare
returns-clause-bare c = c.acting.ensures.bare

pub returns-clause-config : goal.returns-clause-config
returns-clause-config c = c.close_one.ensures.config

pub returns-clause-logons : goal.returns-clause-logons
returns-clause-logons c = c.close_one.ensures.logons
