use Rattle.std.proofs.Common.{Some}
use Rattle.std.specs.String.{string_bytes}
use Rattle.std.proofs.lemmas.Map.Text.{btree_map_updates_text}
use Rattle.store_files.proofs.file_tree.index.name_path.Goals as goal

pub returns-in-Ok-clause-ok : goal.returns-in-Ok-clause-ok
returns-in-Ok-clause-ok c = λ q. btree_map_updates_text (string_bytes c.args.key) c.args.paths.now c.insert.new.self
    (Some c.args.file) c.in-Ok.ensures.updates q
