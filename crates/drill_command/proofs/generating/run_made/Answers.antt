use Rattle.std.proofs.Common.{refl, ◌∙◌}
use Rattle.std.proofs.lemmas.Result.{err_from_is_err_and}
use Rattle.script_words.specs.generator.Making.{lines_left}
use Rattle.law_scripts.proofs.script_runs.Schedules.{all_done, fails_there, goes_on}
use Rattle.drill_command.proofs.Summed.{first_numbered, less_left, none_numbered, said_line}
use Rattle.drill_command.proofs.generating.run_made.Goals as goal

pub loop-made-init : goal.loop-made-init
loop-made-init c = λ z d h. (d, refl, h)

pub loop-made-preserved : goal.loop-made-preserved
loop-made-preserved c = λ z d h.
    let so_far = c.loop-made.invariant z d h in
    let acts = c.in_ok-behind.ensures.state z so_far.0 so_far.2 in
    let split = first_numbered c.loop-made.before c.in_ok-number.number (lines_left c.loop-made.maker) (lines_left c.next_line.new.self)
    c.in-Some.made c.in_ok-statement.statement c.in-Some.ensures c.in_ok-number.ensures c.in_ok-statement.ensures in (
      acts.0,
      so_far.1
          ∙ goes_on z c.loop-made.count c.in_ok-behind.behind
          (said_line c.in_ok-number.number c.in_ok-statement.statement) _ _ so_far.0 acts.0
          split acts.1 c.in_ok-behind.ensures.count,
      acts.2,
    )

pub returns-in_err-number : goal.returns-in_err-number
returns-in_err-number c =
    let p = err_from_is_err_and c.from_residual.result c.from_residual.ensures.1 in rw (p.1, p.2) (λ z d h. tt)

pub returns-in_err-statement : goal.returns-in_err-statement
returns-in_err-statement c =
    let p = err_from_is_err_and c.from_residual-in_err-statement.result c.from_residual-in_err-statement.ensures.1 in
    rw (p.1, p.2) (λ z d h. tt)

pub returns-in_err-behind : goal.returns-in_err-behind
returns-in_err-behind c =
    let p = err_from_is_err_and c.from_residual-in_err-behind.result c.from_residual-in_err-behind.ensures.1 in
    rw (p.1, p.2) (λ z d h.
    let so_far = c.loop-made.invariant z d h in
    let split = first_numbered c.loop-made.before c.in_ok-number.number (lines_left c.loop-made.maker) (lines_left c.next_line.new.self)
    c.in-Some.made c.in_ok-statement.statement c.in-Some.ensures c.in_ok-number.ensures c.in_ok-statement.ensures in
    fails_there z _ c.loop-made.count (said_line c.in_ok-number.number c.in_ok-statement.statement) _ _ so_far.0 _ split so_far.1
    (c.in_err-behind.ensures.state z so_far.0 so_far.2))

pub returns : goal.returns
returns c = λ z d h.
    let so_far = c.loop-made.invariant z d h in
    (so_far.0, all_done z _ c.loop-made.count _ so_far.0 (none_numbered c.loop-made.before _ c.in_default.ensures) so_far.1, so_far.2)

pub loop-made-smaller : goal.loop-made-smaller
loop-made-smaller c = less_left (lines_left c.loop-made.maker) (lines_left c.next_line.new.self) c.in-Some.made c.in-Some.ensures
