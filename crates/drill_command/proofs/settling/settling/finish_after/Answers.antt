use Rattle.std.proofs.Common.{ℕ, ◌&&◌, ◌==◌, not, sym, ap, ◌∙◌, length}
use Rattle.world_steps.proofs.events.Coming.{as_course, result_as}
use Rattle.drill_command.proofs.settling.Equations.{finished_off, finished_on}
use Rattle.drill_command.proofs.settling.settling.finish_after.Goals as goal

pub returns-then-both : goal.returns-then-both
returns-then-both c = λ z e d counted h.
    let b = c.args.is_new in
    let on = ap (λ (n : ℕ). b && not (n == length d.world.values.client.refusals)) counted
    ∙ (ap (λ (n : ℕ). b && not (c.args.refusals == n)) (c.refusals_of-now.ensures d.world.values.client h.own.client)
    ∙ (sym c.both.ensures ∙ c.if-both.true)) in
    result_as z c.finish_last.new.world c.finish_last.result _ _ (sym (finished_on z b e d on)) (c.finish_last.ensures z d h)

pub returns : goal.returns
returns c = λ z e d counted h.
    let b = c.args.is_new in
    let off = ap (λ (n : ℕ). b && not (n == length d.world.values.client.refusals)) counted
    ∙ (ap (λ (n : ℕ). b && not (c.args.refusals == n)) (c.refusals_of-now.ensures d.world.values.client h.own.client)
    ∙ (sym c.both.ensures ∙ c.if-both.false)) in
    as_course z c.args.world.now d _ (sym (finished_off z b e d off)) h
