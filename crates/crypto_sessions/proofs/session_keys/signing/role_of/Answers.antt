use Rattle.crypto_sessions.proofs.session_keys.Roles.{of_cancel, of_other}
use Rattle.crypto_sessions.proofs.session_keys.signing.role_of.Goals as goal

pub returns-then-command-eq-CANCEL-clause-same : goal.returns-then-command-eq-CANCEL-clause-same
returns-then-command-eq-CANCEL-clause-same c = of_cancel c.args.message.now c.from_le_bytes-command.result c.requires
    c.from_le_bytes-command.ensures c.if-command-eq-CANCEL.true

pub returns-else-command-eq-CANCEL-clause-same : goal.returns-else-command-eq-CANCEL-clause-same
returns-else-command-eq-CANCEL-clause-same c = of_other c.args.message.now c.from_le_bytes-command.result c.requires
    c.from_le_bytes-command.ensures c.if-command-eq-CANCEL.false
