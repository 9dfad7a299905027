use Rattle.std.proofs.Common.{sym}
use Rattle.script_words.proofs.NumberLemmas.{numeral_is_text}
use Rattle.script_words.proofs.numbers.number_to.Goals as goal

pub returns-in-Err : goal.returns-in-Err
returns-in-Err c = absurd (c.in-Err.ensures.cases.0 (numeral_is_text c.args.word.now (sym c.if-not-is_numeral.ensures)))
