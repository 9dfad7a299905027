use Rattle.std.proofs.Common.{Bool, sym, subst, ◌∙◌}
use Rattle.server_core.specs.durable_state.Durable.{DurableShown, file_behind}
use Rattle.server_core.proofs.durable_state.Making.{create_off, create_done, may_stays}
use Rattle.spec_exchange.specs.Fold.{created_file}
use Rattle.law_records.proofs.fold.Created.{created_fits}
use Rattle.server_core.proofs.durable_state.durable.Durable.restore_if.Goals as goal

pub returns-then-not-may : goal.returns-then-not-may
returns-then-not-may c = λ s origin i k e h. create_off c.args.self.now s origin c.args.made.now c.args.new.now (sym c.if-not-may.true ∙ e)
    (subst (λ (b : Bool). DurableShown c.args.self.now (file_behind s c.args.made.now b)) c.if-not-may.true h)

pub returns-in-Ok : goal.returns-in-Ok
returns-in-Ok c = λ s origin i k e h.
    let m = c.args.made.now in
    create_done c.restore_new.new.self s origin m c.args.new.now (sym c.if-not-may.false ∙ e) k
    (c.in-Ok.ensures (created_file s m.action m.file m.path.now m.attributes m.directory m.time)
    (created_fits s m.action m.file m.path.now m.attributes m.directory m.time i)
    (subst (λ (b : Bool). DurableShown c.args.self.now (file_behind s m b)) c.if-not-may.false h)
    (may_stays s m.action m.file m.path.now m.attributes m.directory m.time c.args.new.now k))
