use Rattle.law_hostile.proofs.negotiating.Agreeing.{negotiated, transcripts}
use Rattle.law_hostile.proofs.negotiating.repeat_negotiation_law.Goals as goal

pub returns-clause-negotiated : goal.returns-clause-negotiated
returns-clause-negotiated c = negotiated

pub returns-clause-transcripts : goal.returns-clause-transcripts
returns-clause-transcripts c = transcripts
