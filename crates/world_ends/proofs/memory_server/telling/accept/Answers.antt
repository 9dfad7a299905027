use Rattle.std.specs.Prelude.{[]}
use Rattle.std.proofs.Common.{ap}
use Rattle.spec_exchange.specs.State.{Reply}
use Rattle.world_ends.proofs.memory_server.Told.{held_on}
use Rattle.world_ends.proofs.memory_server.telling.accept.Goals as goal

-- of the step: that no call failed, the reply, whether it acted, what stands beside it, and what is held behind it
pub returns-in-Ok : goal.returns-in-Ok
returns-in-Ok c = λ users s L records h.
    let t = c.in-Ok.ensures.step [] s L records h.held.1 in (
      ap (λ (r : Reply). r.status) t.1,
      held_on c.args.book.now (record c.args.book.now { server = c.event.new.self }) users s _ L L records _ h
          c.in-Ok.ensures.config t.0 t.4,
    )
