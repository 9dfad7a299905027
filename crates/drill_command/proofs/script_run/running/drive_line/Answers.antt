use Rattle.drill_command.proofs.script_run.Begun.{ok_same}
use Rattle.drill_command.proofs.script_run.running.drive_line.Goals as goal

pub returns-in-Some-clause-count : goal.returns-in-Some-clause-count
returns-in-Some-clause-count c = ok_same c.drive_behind.result _ _ c.in-Some.ensures c.drive_behind.ensures.count

pub returns-in-Some-clause-state : goal.returns-in-Some-clause-state
returns-in-Some-clause-state c = λ z d h. c.drive_behind.ensures.state z d c.args.before h c.in-Some.ensures

pub returns-in-None-clause-state : goal.returns-in-None-clause-state
returns-in-None-clause-state c = λ z d h. tt
