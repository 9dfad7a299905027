use Rattle.std.proofs.Common.{sym, ap, ◌∙◌, Option, option_map}
use Rattle.client_values.specs.outcomes.Meaning.{refusal_of}
use Rattle.spec_exchange.specs.Operations.{Refusal}
use Rattle.spec_world.specs.Courses.{finished_by}
use Rattle.world_steps.proofs.events.Coming.{as_course, result_as}
use Rattle.drill_command.proofs.settling.Rounds.{finish_comes, finished_none, finished_some}
use Rattle.drill_command.proofs.settling.settling.finish_last.Goals as goal

pub returns-in-Some : goal.returns-in-Some
returns-in-Some c = λ z d h.
    let why = refusal_of c.in-Some.why in
    let told = ap (option_map refusal_of) (sym c.in-Some.is) ∙ c.last_of.ensures d.world.values.client h.own.client in
    result_as z c.give_up.new.world c.give_up.result _ _ (finished_some z why d ∙ ap (λ (o : Option Refusal). finished_by z o d) told)
    (finish_comes z c.give_up.new.world c.give_up.result d why (c.give_up.ensures z d.world h))

pub returns-in-None : goal.returns-in-None
returns-in-None c = λ z d h.
    let told = ap (option_map refusal_of) (sym c.in-None.is) ∙ c.last_of.ensures d.world.values.client h.own.client in
    as_course z c.args.world.now d _ (finished_none z d ∙ ap (λ (o : Option Refusal). finished_by z o d) told) h
