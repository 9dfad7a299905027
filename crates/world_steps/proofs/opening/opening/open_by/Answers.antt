use Rattle.std.proofs.Common.{Bool, Option, ℕ, subst, ◌≡◌, ◌∙◌, ap, if◌then◌else◌, Some}
use Rattle.world_steps.proofs.opening.Opened.{opens}
use Rattle.world_steps.proofs.Refusing.{memory}
use Rattle.world_steps.proofs.opening.opening.open_by.Goals as goal

pub returns-in-Ok : goal.returns-in-Ok
returns-in-Ok c = λ due draws makes z w h.
    let x = c.args.world.now in
    let e = c.enter.new in
    let made = c.made_with-world.ensures ∙ ap (λ (b : Bool). if b then x.making else Some c.args.k) c.is_some-bound.ensures in
    let late = subst (λ (m : Option ℕ). c.later.new.world ≡ record (record x {
      book = e.book;
      channels = e.channels;
      making = m;
      draws = c.args.draws;
    })
    { moment = c.later.new.world.moment }) made c.later.ensures.rest in
    opens z x w c.args.k c.args.begun makes h (record x { book = e.book; channels = e.channels }) c.later.new.world c.args.draws due draws
    c.in-Ok.ensures late c.later.ensures.moment

pub returns-in-Err : goal.returns-in-Err
returns-in-Err c = λ due draws makes z w h. memory z _ w _ _ c.in-Err.ensures
