use Rattle.drill_command.proofs.settling.Rounds.{looked}
use Rattle.drill_command.proofs.settling.settling.is_over.Goals as goal

pub returns : goal.returns
returns c = λ z d h.
    let e = c.is_settled.ensures in (
      looked z c.args.world.now c.is_settled.new.self d (e.shown d.world.values.client h.own.client) h,
      e.told d.world.values.client h.own.client,
    )
