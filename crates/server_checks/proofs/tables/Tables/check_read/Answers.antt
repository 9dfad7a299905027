use Rattle.std.proofs.Common.{◌≡◌, ℕ, true, subst, sym}
use Rattle.spec_exchange.specs.CheckOpen.{file_of}
use Rattle.spec_exchange.specs.Ranges.{may_read}
use Rattle.server_checks.proofs.Passed.{passed}
use Rattle.server_checks.proofs.ReadAnswers.{read_is}
use Rattle.server_checks.specs.verdicts.Views.{verdict_of}
use Rattle.server_checks.proofs.tables.Tables.check_read.Goals as goal

pub returns-in-Ok : goal.returns-in-Ok
returns-in-Ok c = λ k s f t st.
    let x = c.file_of-file.ensures.there s f t st in
    passed c.check_bytes.result (verdict_of k) _ _
    (read_is s c.args.id c.file_of-file.result c.args.at c.args.size c.args.minimum (sym (c.if-not-has_either.ensures s t st))
    (sym (c.if-is_directory.ensures s t x))
    (subst (λ (n : ℕ). may_read (s.ranges (file_of s c.args.id)) c.args.id c.args.at n ≡ true) c.from.ensures
    (c.in-Ok.ensures.shown s t.opens st)) (c.file_of-file.ensures.shown s t st))
    (c.check_bytes.ensures k s t x)
