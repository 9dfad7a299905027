use Rattle.std.proofs.Common.{arith}
use Rattle.conn_core.proofs.frame_messages.Opening.{without_cipher, too_short}
use Rattle.conn_core.proofs.frame_messages.checking.open_under.Goals as goal
use Rattle.conn_core.proofs.frame_messages.checking.open_under.Goals.{then-keys-eq0-via-then-keys-eq0}
use Rattle.conn_core.proofs.frame_messages.checking.open_under.Goals.{then-keys-eq0-via-else-keys-eq0+then-keys-gt4}
use Rattle.conn_core.proofs.frame_messages.checking.open_under.Goals.{then-keys-eq0-via-else-keys-eq0+else-keys-gt4+then-frame-lt-TRANSFORM}

pub returns-then-keys-eq0-clause-text : goal.returns-then-keys-eq0-clause-text
returns-then-keys-eq0-clause-text c = λ known.
    elim c.then-keys-eq0.branch [
      | then-keys-eq0-via-then-keys-eq0 w ↦ without_cipher c.args.keys.now c.args.frame.now c.args.frame.now w.if-keys-eq0.true
      | then-keys-eq0-via-else-keys-eq0+then-keys-gt4 w ↦ let above = w.if-keys-gt4.true in absurd (omega (arith, known, above))
      | then-keys-eq0-via-else-keys-eq0+else-keys-gt4+then-frame-lt-TRANSFORM w ↦
          too_short c.args.keys.now c.args.frame.now c.args.frame.now w.if-frame-lt-TRANSFORM.true
    ]
