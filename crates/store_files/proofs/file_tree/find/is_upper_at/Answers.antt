use Rattle.std.proofs.Common.{arith}
use Rattle.std.proofs.lemmas.Grind.{common_steps}
use Rattle.store_files.proofs.file_tree.Long.{upper_alike, upper_differs}
use Rattle.store_files.proofs.file_tree.find.is_upper_at.Goals as goal

pub returns-clause-alike : goal.returns-clause-alike
returns-clause-alike c = λ t. upper_alike c.args.path.now c.args.key.now c.args.i c.requires.0 c.requires.1
    (let u = c.to_ascii_uppercase.ensures.value in grind (arith, common_steps))

pub returns-clause-differs : goal.returns-clause-differs
returns-clause-differs c = λ t. upper_differs c.args.path.now c.args.key.now c.args.i c.requires.0 c.requires.1
    (let u = c.to_ascii_uppercase.ensures.value in grind (arith, common_steps))
