use Rattle.std.proofs.Common.{sym}
use Rattle.spec_exchange.specs.Files.{used}
use Rattle.store_files.proofs.file_tree.tree.Tree.space.Goals as goal

pub returns-clause-used : goal.returns-clause-used
unfolding used
returns-clause-used c = λ s h. sym h.rows.used_is
