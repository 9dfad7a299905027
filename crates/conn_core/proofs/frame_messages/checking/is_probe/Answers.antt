use Rattle.std.proofs.Common.{◌∙◌}
use Rattle.conn_core.proofs.frame_messages.Probes.{probe_told}
use Rattle.conn_core.proofs.frame_messages.checking.is_probe.Goals as goal

pub returns-then-header-eq-ECHO : goal.returns-then-header-eq-ECHO
returns-then-header-eq-ECHO c =
    c.starts_with.ensures.value ∙ probe_told c.args.header.now.command c.args.message.now c.if-header-eq-ECHO.true c.requires
