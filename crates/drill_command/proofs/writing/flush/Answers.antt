use Rattle.std.specs.String.{string_bytes}
use Rattle.drill_command.proofs.Written.{cut_flush, flushed, on_err}
use Rattle.drill_command.proofs.writing.flush.Goals as goal

pub returns-clause-written : goal.returns-clause-written
returns-clause-written g c =
    flushed _ _ (string_bytes c.args.text.now) (string_bytes c.clear.new.self) c.as_bytes.result.now
    c.as_bytes.ensures.value c.clear.ensures.bytes
    c.in_ok-write_all.ensures.written

pub returns-in_err-write_all-clause-front : goal.returns-in_err-write_all-clause-front
returns-in_err-write_all-clause-front g c =
    on_err _ c.from_residual.result
    (cut_flush (g.O.Sink.written c.args.sink.now) (g.O.Sink.written c.write_all.new.sink) c.as_bytes.result.now
    (string_bytes c.args.text.now)
    c.as_bytes.ensures.value c.in_err-write_all.ensures.front)
