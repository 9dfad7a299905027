use Rattle.std.proofs.Common.{◌≡◌, length}
use Rattle.std.specs.String.{string_bytes}
use Rattle.law_scripts.specs.generated.ReadsBack.{script_text}
use Rattle.script_words.specs.generator.Making.{lines_left}
use Rattle.drill_command.proofs.Written.{Written}
use Rattle.drill_command.proofs.writing.write_script.Given as goal

abbrev pub invariant-loop-line : goal.invariant-loop-line
invariant-loop-line g l = record {
  written : Written (g.O.Sink.written l.initial.sink) (g.O.Sink.written l.sink) (string_bytes l.text) (lines_left l.maker)
      (script_text (lines_left l.initial.maker));
  calm : g.O.Sink.faults l.sink ≡ g.O.Sink.faults l.initial.sink;
}

abbrev pub decreases-loop-line : goal.decreases-loop-line
decreases-loop-line g l = length (lines_left l.maker)
