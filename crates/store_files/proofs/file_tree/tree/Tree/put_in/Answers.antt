use Rattle.std.proofs.Common.{nat_eq, refl, ◌∙◌, arith}
use Rattle.std.specs.HashMap.{get}
use Rattle.store_files.proofs.file_tree.Counts.{length_gone, sizes_gone}
use Rattle.store_files.proofs.file_tree.RowsMade.{no_row, same_rows}
use Rattle.store_files.proofs.file_tree.PutBack.{gone_at, key_back, row_back}
use Rattle.store_files.proofs.file_tree.tree.Tree.put_in.Goals as goal

pub returns-in-Ok-clause-back : goal.returns-in-Ok-clause-back
returns-in-Ok-clause-back c = λ s done h g.
    let f = c.args.gone.file in
    let w = c.args.gone.row in
    record {
      rows = record {
        apart = g.apart;
        fresh = g.fresh;
        above = h.rows.above;
        no_root = g.no_root;
        no_empty = g.no_empty;
        housed = g.housed;
        plain = g.plain;
        root_path = h.rows.root_path;
        root_below = h.rows.root_below;
        root_is = h.rows.root_is;
        rows_are = λ q. row_back s f q (get nat_eq c.args.self.now.rows q) _ w (c.put_row.ensures.at q)
            (h.rows.rows_are q) g.path_is g.row_is;
        count_is =
            let a = length_gone s.entries f w.path g.apart g.path_is in
            let k = h.rows.count_is in
            let n = c.put_row.ensures.count (no_row _ _ _ _ _ _ (h.rows.rows_are f) (gone_at s.entries f)) in
            omega arith;
        next_is = h.rows.next_is;
        used_is =
            let a = sizes_gone s.content s.entries f w.path g.apart g.path_is in
            let b = c.len.ensures (s.content f) g.row_is.content_is in
            let k = h.rows.used_is in
            let m = g.used_fits in
            let u = c.saturating_add-self.ensures in
            omega arith;
        room_is = h.rows.room_is;
      };
      keys_are = λ q. c.in-Ok.ensures.ok q ∙ rw (g.key_is, h.keys_are q) (key_back s.entries f w.path q g.apart g.path_is);
    }

pub returns-in-Err-clause-stays : goal.returns-in-Err-clause-stays
returns-in-Err-clause-stays c = λ s r h. record {
  rows = same_rows c.args.self.now _ s (λ q. refl) refl refl refl refl refl h.rows;
  keys_are = λ q. c.in-Err.ensures.err q ∙ h.keys_are q;
}
