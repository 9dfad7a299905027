use Rattle.std.proofs.Common.{List, ap}
use Rattle.spec_exchange.specs.CheckOpen.{file_of, range_check}
use Rattle.spec_exchange.specs.Commands.{Element}
use Rattle.spec_exchange.specs.Ranges.{change_ranges}
use Rattle.server_checks.proofs.Passed.{passed}
use Rattle.server_checks.specs.verdicts.Views.{verdict_of}
use Rattle.server_checks.proofs.tables.Tables.check_ranges.Goals as goal

pub returns-in-Err : goal.returns-in-Err
returns-in-Err c = λ k s t st f e. passed c.denied.result (verdict_of k) _ _
    (ap (λ (es : List Element). range_check c.args.id c.args.index c.args.number es
    (change_ranges (s.ranges (file_of s c.args.id)) c.args.id c.args.elements.now)) e)
    (c.denied.ensures k _ (c.in-Err.ensures s t st f))
