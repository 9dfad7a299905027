use Rattle.law_scripts.specs.generated.ReadsBack.{script_text}
use Rattle.script_words.specs.generator.Making.{made_lines}
use Rattle.drill_command.proofs.Written.{no_front}
use Rattle.drill_command.proofs.generating.generated.Goals as goal

pub returns : goal.returns
returns g c = no_front (g.O.Sink.written c.args.sink.now) (script_text (made_lines c.args.key c.args.operations))
