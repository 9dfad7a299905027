use Rattle.std.proofs.Common.{ap}
use Rattle.spec_exchange.specs.State as model
use Rattle.spec_exchange.specs.Files.{info_of}
use Rattle.store_files.proofs.file_tree.tree.Tree.length.Goals as goal

pub returns : goal.returns
unfolding info_of
returns c = λ s h e. ap (λ (i : model.Info). i.size) (c.info.ensures s h e)
