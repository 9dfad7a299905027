use Rattle.std.proofs.Common.{◌∙◌, refl}
use Rattle.store_files.proofs.file_tree.Keys.{find_none}
use Rattle.store_files.proofs.file_tree.Refused.{made_find, made_form, made_parent, find_filled}
use Rattle.store_files.proofs.file_tree.RowsMade.{same_rows}
use Rattle.store_files.proofs.file_tree.tree.Tree.take_path.Goals as goal

pub returns-clause-ok : goal.returns-clause-ok
returns-clause-ok c = λ s h r. record {
  rows = same_rows c.args.self.now _ s c.in_ok-make_room.ensures.rows c.in_ok-make_room.ensures.count refl refl refl refl h.rows;
  free = find_none s c.args.path.now (made_find s c.args.path.now r);
  form = made_form s c.args.path.now r;
  parent = made_parent s c.args.path.now r;
  named = find_filled s c.args.path.now (made_find s c.args.path.now r);
  keys_are = λ q. c.in_ok-name_path.ensures.ok q ∙ rw (c.in_ok-key.ensures, h.keys_are q) refl;
  row_is = c.in_ok-row.ensures;
}
