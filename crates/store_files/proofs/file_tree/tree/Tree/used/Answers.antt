use Rattle.std.proofs.Common.{sym}
use Rattle.spec_exchange.specs.Files.{used}
use Rattle.store_files.proofs.file_tree.tree.Tree.used.Goals as goal

pub returns : goal.returns
unfolding used
returns c = λ s h. sym h.rows.used_is
