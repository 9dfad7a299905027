use Rattle.std.proofs.Common.{is_some, sym, ap}
use Rattle.std.specs.BTreeMap.{get_by_text}
use Rattle.store_files.proofs.file_tree.Names.{taken_stood, taken_key}
use Rattle.store_files.proofs.file_tree.new_name.take_key.Goals as goal

pub returns-in-Some-clause-ok : goal.returns-in-Some-clause-ok
returns-in-Some-clause-ok c = λ q. taken_stood c.args.name.now q (λ k. get_by_text c.args.paths.now k)
    (ap is_some (sym (rw c.as_str.ensures.value at c.in-Some.ensures.value)))

pub returns-in-None-clause-ok : goal.returns-in-None-clause-ok
returns-in-None-clause-ok c = taken_key c.args.name.now (λ k. get_by_text c.args.paths.now k)
    (λ k. get_by_text c.take_new_key.new.paths k) c.take_new_key.result
    (ap is_some (sym (rw c.as_str.ensures.value at c.in-None.ensures.value))) c.take_new_key.ensures.ok
