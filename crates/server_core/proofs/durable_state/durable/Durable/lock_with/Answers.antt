use Rattle.std.proofs.Common.{sym, ◌∙◌}
use Rattle.spec_exchange.specs.Ranges.{change_ranges}
use Rattle.spec_exchange.specs.CheckOpen.{file_of}
use Rattle.spec_exchange.specs.Status.{success}
use Rattle.server_core.proofs.durable_state.Choice.{eq_on, eq_off}
use Rattle.server_core.proofs.durable_state.Locking.{mixed_off, failed_on, granted_on}
use Rattle.server_core.proofs.durable_state.durable.Durable.lock_with.Goals as goal

pub returns-then-not-is_alike : goal.returns-then-not-is_alike
returns-then-not-is_alike c = λ s i h st. mixed_off c.args.self.now s c.args.id c.args.index c.args.number c.args.status c.args.elements.now
    (sym c.is_alike.ensures ∙ c.if-not-is_alike.true) h

pub returns-then-status-ne0 : goal.returns-then-status-ne0
returns-then-status-ne0 c = λ s i h st. failed_on c.keep.new.self s c.args.id c.args.index c.args.number c.args.status c.args.elements.now
    (sym c.is_alike.ensures ∙ c.if-not-is_alike.false) (eq_off c.args.status success c.if-status-ne0.true) (c.keep.ensures s h st)

pub returns-in-Ok : goal.returns-in-Ok
returns-in-Ok c = λ s i h st.
    let k = c.in-Ok.ensures s i h st in
    granted_on c.keep_if.new.self s c.args.id c.args.index c.args.number c.args.status c.args.elements.now
    (sym c.is_alike.ensures ∙ c.if-not-is_alike.false) (eq_on c.args.status success c.if-status-ne0.false)
    (c.keep_if.ensures s (change_ranges (s.ranges (file_of s c.args.id)) c.args.id c.args.elements.now) k.0 k.1 st)
