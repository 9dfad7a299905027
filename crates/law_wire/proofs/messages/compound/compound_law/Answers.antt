use Rattle.law_wire.proofs.messages.Joined.{one_split, split_holds}
use Rattle.law_wire.proofs.messages.compound.compound_law.Goals as goal

pub returns-clause-one : goal.returns-clause-one
returns-clause-one c = one_split c.header_law.ensures.one

pub returns-clause-whole : goal.returns-clause-whole
returns-clause-whole c = split_holds c.header_law.ensures.one c.header_law.ensures.whole
