use Rattle.std.proofs.Common.{ℕ, Option, sym, ap, ◌∙◌}
use Rattle.spec_exchange.specs.CheckOpen.{target_of}
use Rattle.server_core.proofs.durable_state.OfFile.{take_off, take_other, take_on}
use Rattle.server_core.proofs.durable_state.durable.Durable.may_take.Goals as goal

pub returns-then-not-exists : goal.returns-then-not-exists
returns-then-not-exists c = λ s h. take_off s c.args.file c.args.replaced c.args.path.now
    (sym (c.exists.ensures s h.files) ∙ c.if-not-exists.true)

pub returns-then-not-is_target : goal.returns-then-not-is_target
returns-then-not-is_target c = λ s h. take_other s c.args.file c.args.replaced c.args.path.now c.target_of-target.result
    (c.target_of-target.ensures ∙ ap (λ (o : Option ℕ). target_of c.args.file o) (c.find.ensures s h.files))
    (sym c.is_target.ensures ∙ c.if-not-is_target.true)

pub returns : goal.returns
returns c = λ s h. take_on s c.args.file c.args.replaced c.args.path.now c.target_of-target.result c.is_unopened.result
    (c.target_of-target.ensures ∙ ap (λ (o : Option ℕ). target_of c.args.file o) (c.find.ensures s h.files))
    (sym (c.exists.ensures s h.files) ∙ c.if-not-exists.false) (sym c.is_target.ensures ∙ c.if-not-is_target.false)
    (c.is_unopened.ensures s h)
