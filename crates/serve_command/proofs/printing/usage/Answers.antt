use Rattle.std.proofs.Common.{subst}
use Rattle.base_outside.specs.whole_texts.Outside.{AppendsFront}
use Rattle.serve_command.proofs.printing.usage.Goals as goal

pub returns-in-Err : goal.returns-in-Err
returns-in-Err g c = (
  c.in-Err.ensures.failed,
  subst (AppendsFront (g.O.Sink.written c.args.sink.now) (g.O.Sink.written c.write_all.new.sink)) c.as_bytes.ensures.value
      c.in-Err.ensures.front,
)
