use Rattle.law_wire.proofs.info.OneEntry.{same_entry, whole_entry, given_entry, again_entry}
use Rattle.law_wire.proofs.info.directory.directory_entry_law.Goals as goal

pub returns-clause-one : goal.returns-clause-one
returns-clause-one c = same_entry

pub returns-clause-whole : goal.returns-clause-whole
returns-clause-whole c = whole_entry

pub returns-clause-given : goal.returns-clause-given
returns-clause-given c = given_entry

pub returns-clause-again : goal.returns-clause-again
returns-clause-again c = again_entry
