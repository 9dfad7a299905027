use Rattle.law_commands.proofs.commands.Texts.{text_again}
use Rattle.law_commands.proofs.commands.Items.{contexts_again, clash_again}
use Rattle.law_commands.proofs.commands.Broken.{contexts_broken, text_broken}
use Rattle.law_commands.proofs.commands.reading.same_reading_law.Goals as goal

pub returns-clause-contexts : goal.returns-clause-contexts
returns-clause-contexts c = contexts_again

pub returns-clause-no_contexts : goal.returns-clause-no_contexts
returns-clause-no_contexts c = contexts_broken

pub returns-clause-clash : goal.returns-clause-clash
returns-clause-clash c = clash_again

pub returns-clause-text : goal.returns-clause-text
returns-clause-text c = text_again

pub returns-clause-no_text : goal.returns-clause-no_text
returns-clause-no_text c = text_broken
