use Rattle.std.proofs.Common.{[], ◌∷◌, ◌++◌, ◌∙◌, Bool, ap, if◌then◌else◌, refl, sym}
use Rattle.world_ends.specs.declared.sides.Up.{Up}
use Rattle.world_steps.proofs.opening.entering.say_short.Goals as goal

pub returns-then-pushed : goal.returns-then-pushed
returns-then-pushed c =
    let u : Up = record { token = c.args.token; bytes = c.into_vec.result } in
    let us = c.args.up.now.items in
    record {
      said = u;
      list = c.push_back.ensures.items ∙ ap (λ (b : Bool). if b then us ++ u ∷ [] else us)
          (sym c.is_ok-pushed.ensures.value ∙ c.if-pushed.true);
      token_is = refl;
      bytes = c.into_vec.ensures;
      short = c.requires;
    }
