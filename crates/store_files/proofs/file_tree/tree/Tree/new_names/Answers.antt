use Rattle.std.proofs.Common.{ℕ, List, length, sym, ap, ◌∙◌}
use Rattle.spec_exchange.specs.Table.{has}
use Rattle.spec_exchange.specs.Files.{path_of}
use Rattle.store_files.proofs.file_tree.Found.{found_path}
use Rattle.store_files.proofs.file_tree.Gathered.{old_filled, are_within, is_whole, no_row_there, row_found}
use Rattle.store_files.proofs.file_tree.tree.Tree.new_names.Goals as goal

pub returns-in-Some : goal.returns-in-Some
returns-in-Some c = λ s h e.
    let t = c.args.self.now in
    let f = c.args.file in
    let r = row_found t s f c.in-Some.row.now h e (sym c.in-Some.ensures.value) in
    let below = c.deref.result.now in
    let are = λ (g : ℕ). ap (has g) c.deref.ensures.value ∙ c.in_ok-below-in-Some.ensures s f h r g in
    let front = c.len.ensures ∙ ap (λ (p : List ℕ). length p) (found_path s f c.in-Some.row.now h.rows.no_root r) in
    let n = c.in_ok-names-in-Some.ensures s (path_of s f) h (old_filled t s f h e below are) front (are_within t s f h e below are) in
    (n.0, is_whole t s f h e below are c.in_ok-names-in-Some.names.items n.1)

pub returns-in-None : goal.returns-in-None
returns-in-None c = λ s h e. absurd (let x = no_row_there c.args.self.now s c.args.file h (sym c.in-None.ensures.value) e in cc)
