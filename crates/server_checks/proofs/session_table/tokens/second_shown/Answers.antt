use Rattle.std.proofs.Common.{◌≡◌, List, ℕ, subst}
use Rattle.spec_crypto.specs.tokens.Tokens as tokens
use Rattle.server_checks.specs.session_table.Logons.{pending_of}
use Rattle.server_checks.proofs.session_table.Breaks.{resp_broken}
use Rattle.server_checks.proofs.session_table.tokens.second_shown.Goals as goal

pub returns-in_ok-check_break-in-Err-clause-shown : goal.returns-in_ok-check_break-in-Err-clause-shown
returns-in_ok-check_break-in-Err-clause-shown c =
    subst (λ (list : List ℕ). tokens.Bad ≡ tokens.shown_second c.args.users.now (pending_of c.args.making.now)
    (tokens.second_in list c.args.token.now)) c.as_slice.ensures
    (resp_broken c.in-Err.error _ c.args.users.now (pending_of c.args.making.now) c.in_ok-check_break-in-Err.ensures c.in-Err.ensures)
