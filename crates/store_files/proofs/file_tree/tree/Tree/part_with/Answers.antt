use Rattle.std.proofs.Common.{◌==◌, [], nat_eq, refl, sym, ap, ◌∙◌, arith}
use Rattle.std.proofs.lemmas.Grind.{common_steps}
use Rattle.std.specs.HashMap.{get}
use Rattle.store_files.specs.file_tree.Shown.{folded}
use Rattle.store_files.proofs.file_tree.Entries.{apart_gone, key_gone, path_gone, none_if, key_stays_free}
use Rattle.store_files.proofs.file_tree.Counts.{length_gone, sizes_gone}
use Rattle.store_files.proofs.file_tree.RowsMade.{row_gone, row_there}
use Rattle.store_files.proofs.file_tree.Full.{path_filled, not_full}
use Rattle.store_files.proofs.file_tree.Housed.{housed_gone}
use Rattle.store_files.proofs.file_tree.Plain.{plain_gone}
use Rattle.store_files.proofs.file_tree.Gathered.{no_row_there}
use Rattle.store_files.proofs.file_tree.PutBack.{row_path}
use Rattle.store_files.proofs.file_tree.tree.Tree.part_with.Goals as goal

pub returns-in-Some-clause-taken : goal.returns-in-Some-clause-taken
returns-in-Some-clause-taken c = λ s h x full k.
    let f = c.args.file in
    let w = h.rows in
    let r = row_there (get nat_eq c.args.self.now.rows f) c.in-Some.row _ _ _ _ _ (sym c.in-Some.ensures.value) (w.rows_are f) in (
      record {
        file_is = refl;
        key_is = k ∙ ap folded (row_path c.args.self.now s f c.in-Some.row h (sym c.in-Some.ensures.value));
        path_is = r.0;
        row_is = r.1;
        apart = w.apart;
        fresh = w.fresh;
        no_root = w.no_root;
        no_empty = w.no_empty;
        housed = w.housed;
        plain = w.plain;
        used_fits = let u = w.used_is in omega arith;
      },
      record {
        rows = record {
          apart = apart_gone s.entries f w.apart;
          fresh = λ g l. path_gone s.entries f g ∙ none_if (f == g) _ (w.fresh g l);
          above = w.above;
          no_root = path_gone s.entries f 0 ∙ none_if (f == 0) _ w.no_root;
          no_empty = key_stays_free s.entries f [] w.no_empty;
          housed = housed_gone s.entries s.directory f c.in-Some.row.path w.apart r.0
              (path_filled s.entries f c.in-Some.row.path w.apart w.no_empty r.0)
              (not_full s f c.in-Some.row.path r.0 full) w.housed;
          plain = plain_gone s.entries f w.plain;
          root_path = w.root_path;
          root_below = w.root_below;
          root_is = w.root_is;
          rows_are = λ g. rw (c.remove.ensures.updates.0 g, path_gone s.entries f g) (row_gone (f == g) _ _ _ _ _ _ (w.rows_are g));
          count_is = let a = length_gone s.entries f c.in-Some.row.path w.apart r.0 in let b = c.in-Some.ensures.len in
              let k = w.count_is in omega arith;
          next_is = w.next_is;
          used_is = let a = sizes_gone s.content s.entries f c.in-Some.row.path w.apart r.0 in
              let b = c.len.ensures (s.content f) r.1.content_is in let k = w.used_is in
              let u = c.saturating_sub-self.ensures in grind (arith, common_steps);
          room_is = w.room_is;
        };
        keys_are = λ q. let e = key_gone s.entries f c.in-Some.row.path q w.apart r.0 in c.forget_path.ensures q
            ∙ rw (c.as_str.ensures.value, r.1.key_is, h.keys_are q) (sym e);
      },
    )

pub returns-in-None-clause-taken : goal.returns-in-None-clause-taken
returns-in-None-clause-taken c = λ s h x full k.
    absurd (let y = no_row_there c.args.self.now s c.args.file h (sym c.in-None.ensures.value) x in cc)
