use Rattle.std.proofs.Common.{Bool, ap, sym, ◌∙◌}
use Rattle.server_effects.proofs.Told.{some_durable}
use Rattle.server_effects.specs.Asked.{asks_with}
use Rattle.server_effects.proofs.creates.asked_by.Goals as goal

pub returns : goal.returns
returns c = ap (λ (b : Bool). asks_with b c.args.request.now.maximal c.args.request.now.disk_id)
    (c.is_some.ensures ∙ sym (some_durable c.args.request.now.durable))
