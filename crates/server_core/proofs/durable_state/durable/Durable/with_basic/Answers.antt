use Rattle.std.proofs.Common.{sym, ◌∙◌}
use Rattle.spec_exchange.specs.State.{Server}
use Rattle.server_core.specs.durable_state.Durable.{DurableShown}
use Rattle.spec_exchange.specs.Files.{exists, store_basic}
use Rattle.spec_exchange.specs.Table.{put}
use Rattle.server_core.proofs.durable_state.Choice.{on, off}
use Rattle.server_core.proofs.durable_state.Shown.{content_behind}
use Rattle.server_core.proofs.durable_state.durable.Durable.with_basic.Goals as goal

pub returns-then-not-exists : goal.returns-then-not-exists
returns-then-not-exists c = λ s origin h. off (λ (u : Server). DurableShown c.args.self.now u) (exists s c.args.file)
    (store_basic s c.args.file c.args.basic.now) s
    (sym (c.exists.ensures s h.files) ∙ c.if-not-exists.true) h

pub returns : goal.returns
returns c = λ s origin h. on (λ (u : Server). DurableShown (record c.args.self.now { tree = c.set_basic.new.self }) u)
    (exists s c.args.file)
    (store_basic s c.args.file c.args.basic.now) s (sym (c.exists.ensures s h.files) ∙ c.if-not-exists.false)
    (content_behind c.args.self.now c.set_basic.new.self s s.content (put s.basic c.args.file c.args.basic.now) h
    (c.set_basic.ensures.shown s h.files))
