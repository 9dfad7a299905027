use Rattle.std.proofs.Common.{◌∙◌}
use Rattle.server_effects.proofs.verdict_effects.sessions.end_by_message.Goals as goal

pub returns-clause-shows : goal.returns-clause-shows
returns-clause-shows c = λ s f h a. record {
  shows = c.end_session-acted.ensures.shows s f h a;
  reply = c.answer_with.ensures.reply;
  acted = c.answer_with.ensures.acted_is ∙ c.end_session-acted.ensures.told s f h;
}

pub returns-clause-bare : goal.returns-clause-bare
returns-clause-bare c = c.answer_with.ensures.bare

pub returns-clause-config : goal.returns-clause-config
returns-clause-config c = c.end_session-acted.ensures.kept.config

pub returns-clause-logons : goal.returns-clause-logons
returns-clause-logons c = c.end_session-acted.ensures.kept.logons
