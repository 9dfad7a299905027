use Rattle.std.proofs.Common.{ap, ◌∙◌}
use Rattle.spec_exchange.specs.Files.{find}
use Rattle.spec_exchange.specs.Texts.{parent_of}
use Rattle.spec_exchange.specs.Listing.{parent_file}
use Rattle.store_files.proofs.file_tree.tree.Tree.parent_number.Goals as goal

pub returns-in-Some : goal.returns-in-Some
unfolding parent_file
returns-in-Some c = λ s h. ap parent_file (c.in-Some.ensures s h ∙ ap (find s) (c.parent_of.ensures ∙ ap parent_of c.as_str.ensures))

pub returns-in-None : goal.returns-in-None
unfolding parent_file
returns-in-None c = λ s h. ap parent_file (c.in-None.ensures s h ∙ ap (find s) (c.parent_of.ensures ∙ ap parent_of c.as_str.ensures))
