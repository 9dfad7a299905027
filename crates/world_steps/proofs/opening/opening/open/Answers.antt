use Rattle.std.proofs.Common.{List, ap, sym, subst, slice_get, ◌∙◌, Err}
use Rattle.world_ends.specs.declared.sides.Channel.{Channel}
use Rattle.world_steps.specs.opening.Opening.{IsOpeningDue, opening_refusal}
use Rattle.world_steps.proofs.opening.Refused.{refused}
use Rattle.world_steps.proofs.opening.opening.open.Goals as goal

pub returns-in-Ok : goal.returns-in-Ok
returns-in-Ok c =
    let x = c.args.world.now in
    c.open_free.ensures
    (ap (λ (v : List Channel). opening_refusal (slice_get v c.args.k) x.making c.args.k) (sym c.deref.ensures.value) ∙ c.in-Ok.ensures)

pub returns-in-Err : goal.returns-in-Err
returns-in-Err c = λ z w h.
    let x = c.args.world.now in
    refused z x w c.args.k h c.in-Err.why
    (subst (λ (v : List Channel). IsOpeningDue (opening_refusal (slice_get v c.args.k) x.making c.args.k) (Err c.in-Err.why))
    c.deref.ensures.value c.in-Err.ensures)
