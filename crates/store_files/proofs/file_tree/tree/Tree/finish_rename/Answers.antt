use Rattle.std.proofs.Common.{◌+◌, List, nat_eq, ap, ◌∙◌}
use Rattle.std.specs.HashMap.{get}
use Rattle.std.specs.BTreeMap.{get_by_text}
use Rattle.store_files.specs.declared.file_tree.tree.Tree.{Tree}
use Rattle.store_files.specs.declared.file_tree.new_name.NewName.{NewName}
use Rattle.store_files.specs.file_tree.Moved.{moved_to, one_by_one, with_names}
use Rattle.store_files.proofs.file_tree.Landed.{landed}
use Rattle.store_files.proofs.file_tree.tree.Tree.finish_rename.Goals as goal

pub returns-clause-shown : goal.returns-clause-shown
returns-clause-shown c = λ s file to p.
    let t = c.args.self.now in
    let m = c.args.moved in
    let d = c.drop_row.ensures in
    let u : Tree = record (c.drop_row.new.self) { rows = c.put_names.new.rows } in
    landed t u m s file to p
    (λ q. ap (λ x. get_by_text x q) (d.rest.0)
    ∙ (c.move_keys.ensures q ∙ ap (λ (ns : List NewName). one_by_one (moved_to (λ g. get nat_eq t.rows g)) ns q
    (get_by_text t.paths q)) c.deref.ensures.value))
    (λ g. c.put_names.ensures.rows g ∙ ap (λ o. with_names m.names.items g o) (d.rows g))
    (λ g e i. ap (λ n. n + 1) c.put_names.ensures.count ∙ d.count g e i)
    d.used
    (λ e. let n = d.none e in (n.0, c.put_names.ensures.count ∙ n.1))
    (d.rest.1) (d.rest.2) (d.rest.3)
