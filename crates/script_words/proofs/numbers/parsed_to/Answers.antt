use Rattle.script_words.proofs.NumberLemmas.{past_every_limit}
use Rattle.script_words.proofs.numbers.parsed_to.Goals as goal

pub returns-in_default-2 : goal.returns-in_default-2
returns-in_default-2 c = past_every_limit c.args.limit c.args.numeral.now c.in_default.field-0 c.ranges.limit.fits
    c.requires c.in_default.ensures.value.0
