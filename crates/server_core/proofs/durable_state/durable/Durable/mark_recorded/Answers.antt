use Rattle.std.proofs.Common.{◌==◌, ◌&&◌, not, sym, ◌∙◌}
use Rattle.spec_exchange.specs.State.{Server}
use Rattle.server_core.specs.durable_state.Durable.{DurableShown}
use Rattle.spec_exchange.specs.Files.{root, exists, set_delete_pending}
use Rattle.law_server.proofs.tables.Logic.{both}
use Rattle.server_core.proofs.durable_state.Choice.{on, off, first_off, second_off, not_on, not_off, eq_on, eq_off}
use Rattle.server_core.proofs.durable_state.durable.Durable.mark_recorded.Goals as goal

pub returns-then-file-eq0 : goal.returns-then-file-eq0
returns-then-file-eq0 c = λ s origin h. off (λ (u : Server). DurableShown c.args.self.now u) (exists s c.args.file
    && not (c.args.file == root))
    (set_delete_pending s c.args.file c.args.marked) s (second_off (exists s c.args.file) (not (c.args.file == root))
    (not_off (c.args.file == root) (eq_on c.args.file root c.if-file-eq0.true))) h

pub returns-then-not-exists : goal.returns-then-not-exists
returns-then-not-exists c = λ s origin h. off (λ (u : Server). DurableShown c.args.self.now u) (exists s c.args.file
    && not (c.args.file == root))
    (set_delete_pending s c.args.file c.args.marked) s (first_off (exists s c.args.file) (not (c.args.file == root))
    (sym (c.exists.ensures s h.files) ∙ c.if-not-exists.true)) h

pub returns-in-Ok : goal.returns-in-Ok
returns-in-Ok c = λ s origin h. on (λ (u : Server). DurableShown c.mark.new.self u) (exists s c.args.file && not (c.args.file == root))
    (set_delete_pending s c.args.file c.args.marked) s (both (exists s c.args.file) (not (c.args.file == root))
    (sym (c.exists.ensures s h.files) ∙ c.if-not-exists.false)
    (not_on (c.args.file == root) (eq_off c.args.file root c.if-file-eq0.false))) (c.in-Ok.ensures s h)
