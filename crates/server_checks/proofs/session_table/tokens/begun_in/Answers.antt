use Rattle.spec_crypto.specs.tokens.Tokens.{begun_by}
use Rattle.server_checks.proofs.session_table.Breaks.{init_broken}
use Rattle.server_checks.proofs.session_table.tokens.begun_in.Goals as goal

pub returns-in_ok-check_break-in-Err : goal.returns-in_ok-check_break-in-Err
unfolding begun_by
returns-in_ok-check_break-in-Err c = init_broken c.in-Err.error _ c.in_ok-check_break-in-Err.ensures c.in-Err.ensures
