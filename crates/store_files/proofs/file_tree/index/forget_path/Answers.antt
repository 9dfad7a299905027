use Rattle.std.proofs.Common.{None}
use Rattle.std.proofs.lemmas.Map.Text.{btree_map_updates_text}
use Rattle.store_files.proofs.file_tree.index.forget_path.Goals as goal

pub returns : goal.returns
returns c = λ q. btree_map_updates_text c.args.key.now c.args.paths.now c.remove.new.self None c.remove.ensures.updates q
