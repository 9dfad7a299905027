use Rattle.std.proofs.Common.{sym, arith}
use Rattle.std.proofs.lemmas.List.{length-take-le}
use Rattle.script_words.proofs.text_lines.LineLemmas.{script_whole, script_cut}
use Rattle.script_words.proofs.text_lines.lines.script.Goals as goal

pub slice_bounds-lines-end : goal.slice_bounds-lines-end
slice_bounds-lines-end c = sym (length-take-le 268435456 c.args.text.now (omega arith))

pub returns-then-text-gt-SCRIPT_BYTES : goal.returns-then-text-gt-SCRIPT_BYTES
returns-then-text-gt-SCRIPT_BYTES c = rw (script_cut c.args.command c.args.text.now c.if-text-gt-SCRIPT_BYTES.true) c.lines.ensures

pub returns-else-text-gt-SCRIPT_BYTES : goal.returns-else-text-gt-SCRIPT_BYTES
returns-else-text-gt-SCRIPT_BYTES c = rw (
  script_whole c.args.command c.args.text.now c.if-text-gt-SCRIPT_BYTES.false,
  ← c.without_last_feed.ensures,
) c.lines-else-text-gt-SCRIPT_BYTES.ensures
