use Rattle.std.proofs.Common.{refl, ◌∙◌}
use Rattle.std.specs.String.{string_bytes}
use Rattle.script_words.specs.generator.Making.{lines_left}
use Rattle.drill_command.proofs.Summed.{less_left}
use Rattle.drill_command.proofs.Written.{begun, cut_last, cut_piece, last_of, on_err, one_more, stood}
use Rattle.drill_command.proofs.writing.write_script.Goals as goal

pub loop-line-init : goal.loop-line-init
loop-line-init g c = record {
  written = begun (g.O.Sink.written c.args.sink.now) (string_bytes c.new-text.result) (lines_left c.args.maker) c.new-text.ensures.bytes;
  calm = refl;
}

pub loop-line-preserved : goal.loop-line-preserved
loop-line-preserved g c = record {
  written = one_more _ _ _ _ _ _ (lines_left c.loop-line.maker) (lines_left c.next_line.new.self) c.in-Some.line _ c.in-Some.ensures
      c.in_ok-push_line.ensures c.in_ok-flush_piece.ensures.written c.loop-line.invariant.written;
  calm = c.in_ok-flush_piece.ensures.calm ∙ c.loop-line.invariant.calm;
}

pub returns-clause-written : goal.returns-clause-written
returns-clause-written g c =
    last_of _ _ _ (string_bytes c.loop-line.text) c.as_bytes.result.now (lines_left c.loop-line.maker) _ c.as_bytes.ensures.value
    c.in_default.ensures c.in_ok-write_all.ensures.written c.loop-line.invariant.written

pub loop-line-smaller : goal.loop-line-smaller
loop-line-smaller g c = less_left (lines_left c.loop-line.maker) (lines_left c.next_line.new.self) c.in-Some.line c.in-Some.ensures

pub returns-in_err-push_line-clause-front : goal.returns-in_err-push_line-clause-front
returns-in_err-push_line-clause-front g c = on_err _ c.from_residual.result (stood _ _ _ _ _ c.loop-line.invariant.written)

pub returns-in_err-flush_piece-clause-front : goal.returns-in_err-flush_piece-clause-front
returns-in_err-flush_piece-clause-front g c =
    on_err _ c.from_residual-in_err-flush_piece.result
    (cut_piece _ _ _ _ _ (lines_left c.loop-line.maker) (lines_left c.next_line.new.self) c.in-Some.line _ c.in-Some.ensures
    c.in_ok-push_line.ensures c.in_err-flush_piece.ensures.front c.loop-line.invariant.written)

pub returns-in_err-write_all-clause-front : goal.returns-in_err-write_all-clause-front
returns-in_err-write_all-clause-front g c =
    on_err _ c.from_residual-in_err-write_all.result
    (cut_last _ (g.O.Sink.written c.loop-line.sink) (g.O.Sink.written c.write_all.new.sink) (string_bytes c.loop-line.text)
    c.as_bytes.result.now (lines_left c.loop-line.maker) _ c.as_bytes.ensures.value c.in_default.ensures c.in_err-write_all.ensures.front
    c.loop-line.invariant.written)
