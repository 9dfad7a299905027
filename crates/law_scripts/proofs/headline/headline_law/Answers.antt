use Rattle.law_scripts.proofs.headline.Runs.{headline}
use Rattle.law_scripts.proofs.headline.headline_law.Goals as goal

pub returns : goal.returns
returns c = record {
  holds = headline c.course_runs_law.ensures.runs c.courses_are_short_law.ensures.short c.plain_courses_law.ensures.plain
      c.steps_law.ensures.steps c.exactly_once_law.ensures.once c.newer_law.ensures.newer c.one_connection_law.ensures.legal
      c.negotiation_law.ensures.negotiated;
}
