use Rattle.std.proofs.Common.{◌∙◌}
use Rattle.store_files.proofs.file_tree.Lengths.{holds_is}
use Rattle.store_files.proofs.file_tree.bytes.row_holds.Goals as goal

pub returns : goal.returns
returns c = λ b i. c.eq.ensures ∙ holds_is c.args.at c.args.bytes.now b c.as_slice.result.now (c.as_slice.ensures.value
    ∙ c.in_ok-there.ensures b i)
