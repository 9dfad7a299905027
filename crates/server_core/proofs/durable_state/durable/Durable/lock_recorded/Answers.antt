use Rattle.std.proofs.Common.{nat_le, ◌&&◌, ◌/◌, length, sym, ◌∙◌}
use Rattle.journal_bytes.specs.record_bytes.Meaning.{elements_in}
use Rattle.spec_exchange.specs.State.{Server}
use Rattle.server_core.specs.durable_state.Durable.{DurableShown}
use Rattle.spec_exchange.specs.Fold.{lock_recorded}
use Rattle.server_core.proofs.durable_state.Choice.{off, first_off, second_off}
use Rattle.server_core.proofs.durable_state.Locking.{index_far, index_near, recorded}
use Rattle.std.proofs.Common.{arith}
use Rattle.server_core.proofs.durable_state.durable.Durable.lock_recorded.Goals as goal

pub returns-then-index-gt64 : goal.returns-then-index-gt64
returns-then-index-gt64 c = λ s origin i h. off (λ (u : Server). DurableShown c.args.self.now u) (s.standing c.args.id
    && nat_le c.args.index 64)
    (lock_recorded s c.args.id c.args.index c.args.number c.args.status
    (elements_in (length c.args.bytes.now / 24) c.args.bytes.now)) s
    (second_off (s.standing c.args.id) (nat_le c.args.index 64) (index_far c.args.index (omega arith))) h

pub returns-then-not-stands : goal.returns-then-not-stands
returns-then-not-stands c = λ s origin i h. off (λ (u : Server). DurableShown c.args.self.now u) (s.standing c.args.id
    && nat_le c.args.index 64)
    (lock_recorded s c.args.id c.args.index c.args.number c.args.status
    (elements_in (length c.args.bytes.now / 24) c.args.bytes.now)) s
    (first_off (s.standing c.args.id) (nat_le c.args.index 64) (sym (c.stands.ensures s h.opens) ∙ c.if-not-stands.true)) h

pub returns-in-Ok : goal.returns-in-Ok
returns-in-Ok c = λ s origin i h.
    let st = sym (c.stands.ensures s h.opens) ∙ c.if-not-stands.false in
    recorded c.lock_with.result c.lock_with.new.self s origin c.args.id c.args.index c.args.number c.args.status c.deref.result.now _ st
    (index_near c.args.index (omega arith)) (c.deref.ensures.value ∙ c.in-Ok.ensures) (c.lock_with.ensures s i h st)
