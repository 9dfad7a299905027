use Rattle.std.proofs.Common.{ℕ, length, take, sym, ap, ◌∙◌, arith}
use Rattle.std.proofs.lemmas.List.{take_all}
use Rattle.store_files.proofs.file_tree.Gathered.{no_row_there}
use Rattle.store_files.proofs.file_tree.Spelled.{row_content}
use Rattle.store_files.proofs.file_tree.tree.Tree.push_file.Goals as goal

pub returns-in-Some : goal.returns-in-Some
returns-in-Some c = λ s h e.
    let d = s.content c.args.file in
    let i = row_content c.args.self.now s c.args.file c.in-Some.row.now h (sym c.in-Some.ensures.value) in (
      record { path = c.in_ok-path-in-Some.path; bytes = c.from_vec.result },
      c.in_ok-push-in-Some.ensures.items,
      c.in_ok-path-in-Some.ensures,
      c.from_vec.ensures ∙ (c.in_ok-bytes-in-Some.ensures d i ∙ (ap (λ (n : ℕ). take n d) (c.len.ensures d i)
          ∙ take_all (length d) d (omega arith))),
    )

pub returns-in-None : goal.returns-in-None
returns-in-None c = λ s h e. absurd (let x = no_row_there c.args.self.now s c.args.file h (sym c.in-None.ensures.value) e in cc)
