use Rattle.std.proofs.Common.{Option, refl, sym, subst}
use Rattle.client_ends.specs.declared.ends.config.Bound.{Bound}
use Rattle.client_ends.specs.dialog_calls.Turning.{JoinsAs, DialogReadies}
use Rattle.client_ends.specs.declared.dialog_calls.heard.Heard.{Heard}
use Rattle.client_ends.proofs.dialog_calls.hearing.joined.Goals as goal

pub returns-in-Some : goal.returns-in-Some
returns-in-Some c = λ n s.
    let b = c.in-Some.bound in
    subst (λ (o : Option Bound). JoinsAs o n c.ready.new.d c.ready.result) (sym c.in-Some.is)
    (subst (λ (h : Heard). DialogReadies n b.session b.tree c.ready.new.d h) (sym c.ready.ensures.told)
    (s, refl, refl, c.ready.ensures.stage))

pub returns-in-None : goal.returns-in-None
returns-in-None c = λ n s.
    subst (λ (o : Option Bound). JoinsAs o n c.refuse.new.d c.refuse.result) (sym c.in-None.is) c.refuse.ensures
