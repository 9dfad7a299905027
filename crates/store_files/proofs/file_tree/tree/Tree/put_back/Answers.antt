use Rattle.std.proofs.Common.{refl}
use Rattle.spec_exchange.specs.Files.{remove_file}
use Rattle.store_files.proofs.file_tree.RowsMade.{same_rows}
use Rattle.store_files.proofs.file_tree.tree.Tree.put_back.Goals as goal

pub returns-in-Ok-clause-back : goal.returns-in-Ok-clause-back
returns-in-Ok-clause-back c = λ s done h g. c.put_in.ensures.back s done
    (record {
      rows = same_rows c.args.self.now _ (remove_file s c.args.gone.file) c.make_room.ensures.rows
          c.make_room.ensures.count refl refl refl refl h.rows;
      keys_are = h.keys_are;
    }) g

pub returns-in-Ok-clause-stays : goal.returns-in-Ok-clause-stays
returns-in-Ok-clause-stays c = λ s no h. c.put_in.ensures.stays s no
    (record {
      rows = same_rows c.args.self.now _ s c.make_room.ensures.rows c.make_room.ensures.count refl refl refl refl h.rows;
      keys_are = h.keys_are;
    })

pub returns-in-Err-clause-stays : goal.returns-in-Err-clause-stays
returns-in-Err-clause-stays c = λ s no h. record {
  rows = same_rows c.args.self.now _ s c.make_room.ensures.rows c.make_room.ensures.count refl refl refl refl h.rows;
  keys_are = h.keys_are;
}
