use Rattle.std.proofs.Common.{refl}
use Rattle.server_checks.proofs.session_table.Whole.{tree_added}
use Rattle.server_checks.proofs.session_table.table.Sessions.add_tree.Goals as goal

pub returns-clause-shows : goal.returns-clause-shows
returns-clause-shows c = λ s h there few.
    let t = c.args.self.now in
    tree_added t (record t { rows = c.put_tree.new.rows }) c.args.session c.args.pipes c.put_tree.result s
    (record {
      row = record { others = c.put_tree.ensures.others; len = c.put_tree.ensures.len; epoch = refl; given = refl };
      here = c.put_tree.ensures.here;
      links = refl;
      order = refl;
    }) h there few
