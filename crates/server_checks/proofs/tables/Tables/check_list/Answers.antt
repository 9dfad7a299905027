use Rattle.std.proofs.Common.{sym}
use Rattle.server_checks.proofs.Passed.{passed}
use Rattle.server_checks.proofs.ReadAnswers.{list_is}
use Rattle.server_checks.specs.verdicts.Views.{verdict_of}
use Rattle.server_checks.proofs.tables.Tables.check_list.Goals as goal

pub returns : goal.returns
returns c = λ k s f t st.
    let x = c.file_of-file.ensures.there s f t st in
    let e = c.file_of-file.ensures.shown s t st in
    passed c.check_listed.result (verdict_of k) _ _
    (list_is s c.args.id c.args.class c.args.restart c.args.single c.args.pattern.now c.args.room c.file_of-file.result
    (sym (c.if-not-has_access.ensures s t st)) (sym (c.if-not-is_directory.ensures s t x)) e)
    (c.check_listed.ensures k s t st x e)
