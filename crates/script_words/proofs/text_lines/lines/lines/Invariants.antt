use Rattle.std.proofs.Common.{◌≡◌, length}
use Rattle.script_words.proofs.text_lines.LineLemmas.{left_of}
use Rattle.script_words.specs.text_lines.Script.{lines_of}
use Rattle.script_words.proofs.text_lines.lines.lines.Given as goal

abbrev pub invariant-loop-line : goal.invariant-loop-line
invariant-loop-line l = left_of l.command l.cut l.progress l.rest ≡ lines_of l.command l.cut l.text

abbrev pub decreases-loop-line : goal.decreases-loop-line
decreases-loop-line l = length l.rest
