use Rattle.std.proofs.Common.{rules, arith}
use Rattle.crypto_sessions.specs.spnego.Views.{init_view}
use Rattle.crypto_sessions.proofs.spnego.Writable.{init_writable}
use Rattle.crypto_sessions.proofs.spnego.fitting.can_write_init.Goals as goal

pub returns-clause-fits : goal.returns-clause-fits
returns-clause-fits c =
    λ h. init_writable (init_view c.args.token.now) (search rules) ((c.names_ntlm_alone.ensures).0 h) (omega arith) (omega arith)
