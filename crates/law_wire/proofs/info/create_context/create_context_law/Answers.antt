use Rattle.law_wire.proofs.info.OneContext.{same_context, whole_context, given_context, again_context}
use Rattle.law_wire.proofs.info.create_context.create_context_law.Goals as goal

pub returns-clause-one : goal.returns-clause-one
returns-clause-one c = same_context

pub returns-clause-whole : goal.returns-clause-whole
returns-clause-whole c = whole_context

pub returns-clause-given : goal.returns-clause-given
returns-clause-given c = given_context

pub returns-clause-again : goal.returns-clause-again
returns-clause-again c = again_context
