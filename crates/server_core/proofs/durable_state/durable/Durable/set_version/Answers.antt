use Rattle.std.proofs.Common.{◌==◌, ◌&&◌, sym, ◌∙◌}
use Rattle.spec_exchange.specs.State.{Server}
use Rattle.server_core.specs.durable_state.Durable.{DurableShown}
use Rattle.server_core.proofs.durable_state.Choice.{on, off}
use Rattle.server_core.proofs.durable_state.Shown.{version_behind}
use Rattle.server_core.proofs.durable_state.durable.Durable.set_version.Goals as goal

pub returns-then-is_newer : goal.returns-then-is_newer
returns-then-is_newer c = λ s h. on (λ (u : Server). DurableShown (record c.args.self.now { version = 2 }) u)
    ((c.args.number == 2) && (s.version == 1)) _ _
    (sym (c.is_newer.ensures s h) ∙ c.if-is_newer.true) (version_behind c.args.self.now s 2 h)

pub returns-else-is_newer : goal.returns-else-is_newer
returns-else-is_newer c = λ s h. off (λ (u : Server). DurableShown c.args.self.now u) ((c.args.number == 2) && (s.version == 1)) _ _
    (sym (c.is_newer.ensures s h) ∙ c.if-is_newer.false) h
