use Rattle.std.proofs.Common.{◌≡◌, Some, is_some, sym, ap, ◌∙◌}
use Rattle.std.specs.BTreeMap.{get_by_text}
use Rattle.std.proofs.lemmas.Map.Text.{btree_map_updates_text}
use Rattle.store_files.proofs.file_tree.Names.{set_there, set_absent}
use Rattle.store_files.proofs.file_tree.index.set_path.Goals as goal

pub returns-in-Some : goal.returns-in-Some
returns-in-Some c = λ q.
    let v = c.in-Some.ensures.value in
    let new = c.get_mut.follows.lender c.args.file in
    btree_map_updates_text c.args.key.now c.args.paths.now new (Some c.args.file)
    ((c.get_mut.follows.holds c.args.file).3 (ap is_some (sym v))) q
    ∙ set_there c.args.key.now q c.args.file (λ k. get_by_text c.args.paths.now k) (ap is_some (sym v))

pub returns-in-None : goal.returns-in-None
returns-in-None c = λ q.
    let e : get_by_text c.get_mut.follows.lender-at-none q ≡ get_by_text c.args.paths.now q = ap (λ m. get_by_text m q)
    c.get_mut.follows.holds-at-none in
    e ∙ set_absent c.args.key.now q c.args.file (λ k. get_by_text c.args.paths.now k) (ap is_some (sym c.in-None.ensures.value))
