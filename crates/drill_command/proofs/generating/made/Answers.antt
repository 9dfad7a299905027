use Rattle.std.proofs.Common.{subst}
use Rattle.drill_command.specs.Writing.{FailsBy}
use Rattle.drill_command.specs.declared.writing.WriteError.{WriteError}
use Rattle.drill_command.proofs.Ended.{cut_script, makes}
use Rattle.drill_command.proofs.Written.{front_of}
use Rattle.drill_command.proofs.generating.made.Goals as goal

pub returns-in-Ok : goal.returns-in-Ok
returns-in-Ok g c =
    makes c.args.key c.args.operations c.args.seed _ _ _ _ _ _ _ c.summed_up.result c.new.ensures c.in-Ok.ensures.written
    c.in-Ok.ensures.calm c.summed_up.ensures

pub returns-in-Err-Failed : goal.returns-in-Err-Failed
returns-in-Err-Failed g c =
    cut_script c.args.key c.args.operations c.args.seed _ (g.O.Sink.written c.args.sink.now) (g.O.Sink.written c.write_script.new.sink)
    (g.O.Sink.faults c.args.sink.now) (g.O.Sink.faults c.write_script.new.sink) c.new.ensures
    (subst (λ (e : WriteError). FailsBy (g.O.Sink.faults c.args.sink.now) (g.O.Sink.faults c.write_script.new.sink) e)
    c.in-Err-Failed.field-0-is c.in-Err-Failed.ensures.failed) c.in-Err-Failed.ensures.front

pub returns-in-Err-Memory : goal.returns-in-Err-Memory
returns-in-Err-Memory g c =
    front_of (g.O.Sink.written c.args.sink.now) (g.O.Sink.written c.write_script.new.sink) _ _ c.new.ensures c.in-Err-Memory.ensures.front
