use Rattle.std.proofs.Common.{◌≡◌, ◌≤◌, List, length, drop, subst}
use Rattle.journal_bytes.specs.declared.record_bytes.value.Record.{Record}
use Rattle.server_core.proofs.restart_tables.Behind.{opened_by, opened_with}
use Rattle.server_core.proofs.restart_tables.starting.opened.Goals as goal

pub returns : goal.returns
returns c = opened_with c.args.state.now c.with_records-2.new.self c.push_marks.new.records c.spelled.result
    c.spelled.ensures.told (λ body is.
    opened_by c.args.state.now c.with_records.new.self c.with_records-2.new.self body c.in_ok-records.records c.push_marks.new.records
    c.as_slice.result.now c.behind.result.now c.len-count.result c.as_slice.ensures c.len-count.ensures
    (subst (λ (v : List Record). c.len-count.result ≤ length v → c.behind.result.now ≡ drop c.len-count.result v)
    c.as_slice-2.ensures c.behind.ensures) is c.in_ok-records.ensures
    c.in_ok-with_records.ensures c.in_ok-push_marks.ensures c.in_ok-with_records-2.ensures)
