use Rattle.std.proofs.Common.{sym}
use Rattle.store_files.proofs.file_tree.Gathered.{named, no_row_there}
use Rattle.store_files.proofs.file_tree.tree.Tree.push_name.Goals as goal

pub returns-in-Some : goal.returns-in-Some
returns-in-Some c = λ s old h z l e w.
    let n = c.in_ok-name-in-Some.ensures in (
      c.in_ok-name-in-Some.name,
      c.in_ok-push-in-Some.ensures.items,
      n.0,
      named c.args.self.now s c.args.file
          c.in-Some.row.now c.in_ok-name-in-Some.name old c.args.to.now c.args.front h (sym c.in-Some.ensures.value) n.1 z
          l w,
    )

pub returns-in-None : goal.returns-in-None
returns-in-None c = λ s old h z l e w. absurd (let x = no_row_there c.args.self.now s c.args.file h (sym c.in-None.ensures.value) e in cc)
