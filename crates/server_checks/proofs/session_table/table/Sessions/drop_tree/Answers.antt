use Rattle.std.proofs.Common.{refl}
use Rattle.server_checks.proofs.session_table.Whole.{tree_gone}
use Rattle.server_checks.proofs.session_table.table.Sessions.drop_tree.Goals as goal

pub returns-clause-shows : goal.returns-clause-shows
returns-clause-shows c = λ s h.
    let t = c.args.self.now in
    tree_gone t (record t { rows = c.cut_tree.new.rows }) c.args.session c.args.tree s
    (record {
      row = record { others = c.cut_tree.ensures.others; len = c.cut_tree.ensures.len; epoch = refl; given = refl };
      here = c.cut_tree.ensures.here;
      links = refl;
      order = refl;
    }) h
