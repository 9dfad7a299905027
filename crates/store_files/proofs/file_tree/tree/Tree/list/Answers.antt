use Rattle.std.proofs.Common.{None, false, refl, sym, ◌∙◌}
use Rattle.store_files.proofs.file_tree.Listings.{listed}
use Rattle.store_files.proofs.file_tree.tree.Tree.list.Goals as goal

pub returns-then-is_any : goal.returns-then-is_any
returns-then-is_any c = λ s h e.
    let t = c.in-Ok.ensures s h e in
    listed s c.args.directory c.args.pattern.now c.as_bytes.result.now (record {
      pattern = c.as_bytes.result;
      class = None;
      room = 0;
      single = false;
    }) c.in-Ok.taken c.as_bytes.ensures.value refl refl t.0 t.1
    (sym c.is_any.ensures ∙ c.if-is_any.true)
