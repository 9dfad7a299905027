use Rattle.law_wire.proofs.messages.Characters.{one_text, text_holds}
use Rattle.law_wire.proofs.messages.text.text_law.Goals as goal

pub returns-clause-one : goal.returns-clause-one
returns-clause-one c = one_text

pub returns-clause-whole : goal.returns-clause-whole
returns-clause-whole c = text_holds
