use Rattle.std.proofs.Common.{sym}
use Rattle.server_checks.proofs.session_table.Breaks.{logon_refused}
use Rattle.server_checks.proofs.session_table.tokens.third_shown.Goals as goal

pub returns-in_ok-check_refusal-in-Err-clause-shown : goal.returns-in_ok-check_refusal-in-Err-clause-shown
returns-in_ok-check_refusal-in-Err-clause-shown c =
    rw (c.in-Some.is, sym c.as_slice.ensures)
    (logon_refused c.in-Err.error _ _ _ c.in_ok-check_refusal-in-Err.ensures c.in-Err.ensures)
