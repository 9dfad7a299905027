use Rattle.std.proofs.Common.{refl, ◌∙◌}
use Rattle.std.proofs.lemmas.Result.{err_from_is_err_and}
use Rattle.law_scripts.proofs.script_runs.Schedules.{all_done, fails_there, goes_on, none_left}
use Rattle.drill_command.proofs.script_run.running.run_lines.Goals as goal

pub loop-line-init : goal.loop-line-init
loop-line-init c = λ z d h. (d, refl, h)

pub loop-line-preserved : goal.loop-line-preserved
loop-line-preserved c = λ z d h.
    let so_far = c.loop-line.invariant z d h in
    let acts = c.in_ok-behind.ensures.state z so_far.0 so_far.2 in (
      acts.0,
      so_far.1
          ∙ goes_on z c.loop-line.count c.in_ok-behind.behind c.in-Some.line c.loop-line.lines.items
          c.pop_front.new.self.items so_far.0 acts.0
          c.in-Some.ensures.items acts.1 c.in_ok-behind.ensures.count,
      acts.2,
    )

pub returns-in_err-behind : goal.returns-in_err-behind
returns-in_err-behind c =
    let p = err_from_is_err_and c.from_residual.result c.from_residual.ensures.1 in
    rw (p.1, p.2) (λ z d h.
    let so_far = c.loop-line.invariant z d h in
    fails_there z _ c.loop-line.count c.in-Some.line c.loop-line.lines.items c.pop_front.new.self.items so_far.0 _ c.in-Some.ensures.items
    so_far.1 (c.in_err-behind.ensures.state z so_far.0 so_far.2))

pub returns : goal.returns
returns c = λ z d h.
    let so_far = c.loop-line.invariant z d h in
    let none = none_left c.loop-line.lines.items c.pop_front.new.self.items c.in_default.ensures.items c.in_default.ensures.rest in
    (so_far.0, all_done z _ c.loop-line.count c.loop-line.lines.items so_far.0 none so_far.1, so_far.2)
