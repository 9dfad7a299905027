use Rattle.std.proofs.Common.{ℕ, List, ap, subst}
use Rattle.world_steps.specs.serving.Heard.{TakesUp}
use Rattle.world_steps.proofs.serving.Passing.{result_on}
use Rattle.world_steps.specs.Parts.{IsWorldMemory}
use Rattle.world_steps.proofs.serving.serving.take_front.Goals as goal

pub returns-in-Ok : goal.returns-in-Ok
returns-in-Ok c =
    let x = c.args.world.now in
    let n = c.hear_front.new in
    result_on (λ e. IsWorldMemory e) c.hear_front.result
    (λ r t. record {
      rest = ap (λ (m : ℕ). record x {
        draws = m;
        book = n.book;
        channels = n.channels;
        places = n.places;
        notes = n.notes;
      }) c.in-Ok.ensures.1;
      takes = subst (λ (l : List ℕ). TakesUp x.book x.channels.items x.places x.client c.args.k x.moment l n.book
          n.channels.items n.places r)
          c.in-Ok.ensures.0 t;
    }) c.hear_front.ensures

pub returns-in-Err : goal.returns-in-Err
returns-in-Err c = c.in-Err.ensures
