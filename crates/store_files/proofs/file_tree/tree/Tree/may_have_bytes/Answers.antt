use Rattle.std.proofs.Common.{sym}
use Rattle.store_files.proofs.file_tree.PutPlace.{none_given, bytes_given, not_there, row_there_so, row_gone_so}
use Rattle.store_files.proofs.file_tree.tree.Tree.may_have_bytes.Goals as goal

pub returns-then-is_empty-clause-rule : goal.returns-then-is_empty-clause-rule
returns-then-is_empty-clause-rule c = λ s h. none_given s c.args.file c.args.at c.args.bytes.now (sym c.if-is_empty.ensures)

pub returns-in-Some-clause-rule : goal.returns-in-Some-clause-rule
returns-in-Some-clause-rule c = λ s h.
    let r = row_there_so c.args.self.now s c.args.file h c.in-Some.row.now c.in-Some.ensures.value in
    bytes_given s c.args.file c.args.at c.args.bytes.now c.ends_in.result r.0 (sym c.if-is_empty.ensures)
    (c.ends_in.ensures.rule (s.content c.args.file) r.1)

pub returns-in-None-clause-rule : goal.returns-in-None-clause-rule
returns-in-None-clause-rule c = λ s h. not_there s c.args.file c.args.at c.args.bytes.now
    (row_gone_so c.args.self.now s c.args.file h c.in-None.ensures.value)
