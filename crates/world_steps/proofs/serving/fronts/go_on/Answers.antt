use Rattle.std.proofs.Common.{Bool, refl, sym, subst, ◌∙◌}
use Rattle.world_steps.specs.serving.Fronted.{SaysBy}
use Rattle.world_steps.proofs.serving.Passing.{ok_with}
use Rattle.world_steps.proofs.serving.fronts.go_on.Goals as goal

pub returns-then-heard : goal.returns-then-heard
returns-then-heard c =
    let x = c.args.channel.now in
    ok_with c.say_frames.result
    (λ d. record {
      client = refl;
      server = refl;
      up = refl;
      down = subst (λ (b : Bool). SaysBy b x.down.items c.args.place c.args.answer.now c.say_frames.new.down.items)
          (sym c.if-heard.true ∙ c.is_client_open-heard.ensures) d;
    }) c.say_frames.ensures

pub returns : goal.returns
returns c =
    let x = c.args.channel.now in
    record {
      client = refl;
      server = refl;
      up = refl;
      down = subst (λ (b : Bool). SaysBy b x.down.items c.args.place c.args.answer.now x.down.items)
          (sym c.if-heard.false ∙ c.is_client_open-heard.ensures) refl;
    }
