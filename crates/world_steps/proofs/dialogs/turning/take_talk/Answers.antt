use Rattle.std.proofs.Common.{List, Err, ap, subst, sym, slice_get, ◌∙◌}
use Rattle.world_ends.specs.declared.sides.Channel.{Channel}
use Rattle.world_steps.specs.opening.Opening.{IsOpeningDue}
use Rattle.world_steps.specs.dialogs.Talking.{taking_refusal}
use Rattle.world_steps.proofs.dialogs.Refused.{refused}
use Rattle.world_steps.proofs.dialogs.turning.take_talk.Goals as goal

pub returns-in-Ok : goal.returns-in-Ok
returns-in-Ok c = λ unready. c.take_open.ensures
    (ap (λ (v : List Channel). taking_refusal (slice_get v c.args.k) c.args.k) (sym c.deref.ensures.value) ∙ c.in-Ok.ensures)

pub returns-in-Err : goal.returns-in-Err
returns-in-Err c = λ unready z w h.
    let x = c.args.world.now in
    refused z x w c.args.k h c.in-Err.why
    (subst (λ (v : List Channel). IsOpeningDue (taking_refusal (slice_get v c.args.k) c.args.k) (Err c.in-Err.why))
    c.deref.ensures.value c.in-Err.ensures)
