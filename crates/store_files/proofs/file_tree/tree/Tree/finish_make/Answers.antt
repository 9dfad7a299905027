use Rattle.std.proofs.Common.{◌+◌, [], nat_eq, sym, ◌∙◌, ap, arith}
use Rattle.std.proofs.lemmas.Grind.{common_steps}
use Rattle.std.specs.HashMap.{get}
use Rattle.spec_exchange.specs.State.{Entry}
use Rattle.store_files.specs.file_tree.Shown.{path_at}
use Rattle.store_files.proofs.file_tree.Entries.{apart_added, key_added, path_added}
use Rattle.store_files.proofs.file_tree.Counts.{sizes_added, length_added, fresh_added, root_added, bytes_filled}
use Rattle.store_files.proofs.file_tree.Housed.{housed_made}
use Rattle.store_files.proofs.file_tree.Plain.{plain_added, made_leaf, made_front}
use Rattle.store_files.proofs.file_tree.RowsMade.{row_made, root_stays, no_row}
use Rattle.store_files.proofs.file_tree.tree.Tree.finish_make.Goals as goal

pub returns-clause-shown : goal.returns-clause-shown
returns-clause-shown c = λ s path directory attributes now p.
    let h = p.rows in
    let m = h.fresh s.next_file (omega arith) in
    let i = h.next_is in
    let g = p.row_is in
    let entry : Entry = record { file = s.next_file; path = path } in (
      sym i,
      record {
        rows = record {
          apart = apart_added s.entries entry h.apart p.free m;
          fresh = λ f l. fresh_added s.entries s.next_file f path h.fresh l;
          above = omega arith;
          no_root = root_added s.entries s.next_file path m h.no_root h.above;
          no_empty = key_added s.entries entry [] p.free ∙ rw (bytes_filled path p.named) h.no_empty;
          housed = housed_made s _ s.next_file path directory h.no_root m p.free h.housed (made_front path p.form) p.parent
              (λ q. key_added s.entries entry q p.free);
          plain = plain_added s.entries entry h.plain (made_leaf path p.named p.form) (made_front path p.form);
          root_path = h.root_path;
          root_below = h.root_below;
          root_is = root_stays s.next_file c.args.self.now.root _ _ _ _ _ _ h.above h.root_is;
          rows_are = λ f. row_made f s.next_file c.args.self.now.next (get nat_eq c.args.self.now.rows f) _
              c.args.prepared.row path (path_at s.entries f) _ _ _ _ _ _ _ _ _ i (c.put_row.ensures.at f)
              (path_added s.entries entry f m) g.path_is g.row_is (h.rows_are f);
          count_is = length_added s.entries entry
              ∙ (ap (λ n. n + 1) h.count_is
              ∙ sym (c.put_row.ensures.count (no_row _ _ _ _ _ _ (h.rows_are c.args.self.now.next)
              (h.fresh c.args.self.now.next (omega arith)))));
          next_is = ap (λ n. n + 1) i;
          used_is = sizes_added s.content s.entries s.next_file path m ∙ h.used_is;
          room_is = h.room_is;
        };
        keys_are = λ q. let e = key_added s.entries entry q p.free in let k = p.keys_are q in grind (arith, common_steps);
      },
    )
