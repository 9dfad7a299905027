use Rattle.store_files.proofs.file_tree.Raised.{raised}
use Rattle.store_files.proofs.file_tree.tree.Tree.find_folded.Goals as goal

pub returns-in-Err : goal.returns-in-Err
returns-in-Err c = λ s h.
    absurd (c.in-Err.ensures.cases.0 (rw (
      c.make_ascii_uppercase.ensures.after,
      c.copy_from_slice.ensures.after,
      c.as_bytes.ensures.value,
    ) (raised c.args.path.now c.utf8.path)))
