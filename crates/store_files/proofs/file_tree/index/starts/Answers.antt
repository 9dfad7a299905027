use Rattle.std.proofs.Common.{◌∙◌}
use Rattle.store_files.proofs.file_tree.Order.{starts_is}
use Rattle.store_files.proofs.file_tree.index.starts.Goals as goal

pub returns : goal.returns
returns c = c.starts_with.ensures.value ∙ rw (c.as_bytes.ensures.value, c.as_bytes-2.ensures.value)
    (starts_is c.args.front.now c.args.text.now)
