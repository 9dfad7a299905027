use Rattle.std.proofs.Common.{◌<◌, arith}
use Rattle.server_core.proofs.body_writing.Counts.{none_added, some_added, some_fits}
use Rattle.server_core.proofs.body_writing.behind.used_behind.Goals as goal

pub returns-then-count-eq0 : goal.returns-then-count-eq0
returns-then-count-eq0 c = λ body e. none_added c.args.used c.args.count body (omega arith) e

pub returns : goal.returns
returns c = λ body e.
    let some : 0 < c.args.count = omega arith in
    let small = some_fits c.args.used c.args.count some c.requires in
    let a = c.saturating_add.ensures in
    let b = c.saturating_add-2.ensures in
    some_added c.args.used c.args.count c.saturating_add-2.result body some e (omega arith)
