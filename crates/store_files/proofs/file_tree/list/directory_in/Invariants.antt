use Rattle.store_files.proofs.file_tree.Slashes.{NoneTo}
use Rattle.store_files.proofs.file_tree.list.directory_in.Given as goal

abbrev pub invariant-loop-i : goal.invariant-loop-i
invariant-loop-i l = NoneTo l.fn.key l.fn.front l.i
