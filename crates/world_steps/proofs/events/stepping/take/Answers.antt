use Rattle.std.proofs.Common.{sym, ◌∙◌, ap, slice_get, List}
use Rattle.world_ends.specs.Tests.{readied_in}
use Rattle.world_ends.specs.declared.sides.Channel.{Channel}
use Rattle.world_steps.proofs.events.stepping.take.Goals as goal

pub returns-then-is_ready : goal.returns-then-is_ready
returns-then-is_ready c =
    c.take_line.ensures
    (sym (c.is_ready.ensures ∙ ap (λ (v : List Channel). readied_in (slice_get v c.args.k)) c.deref.ensures.value) ∙ c.if-is_ready.true)

pub returns : goal.returns
returns c =
    c.take_talk.ensures
    (sym (c.is_ready.ensures ∙ ap (λ (v : List Channel). readied_in (slice_get v c.args.k)) c.deref.ensures.value)
    ∙ c.if-is_ready.false)
