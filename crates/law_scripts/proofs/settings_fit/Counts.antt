-- The lines of a script that was read are few, so its restarts and operations are.
use Rattle.std.proofs.Common.{◌≡◌, ℕ, ◌+◌, ◌≤◌, List, [], ◌∷◌, ◌++◌, length, Ok, arith}
use Rattle.law_replies.specs.courses.Courses.{count_line, count_lines, restarts_of, submits_of}
use Rattle.law_scripts.specs.script_setup.Scripts.{lines_in, lines_of, lines_of_statement, operations_of}
use Rattle.spec_exchange.specs.Network.{Event, Submit, Open, Push, Serve, Take, Cut, Drop, Restart, Crash, Wait, Finish}
use Rattle.script_words.specs.text_lines.Script.{Read, script}
use Rattle.script_words.specs.declared.text_lines.line.Line.{Line as Said}
use Rattle.script_words.specs.declared.values.Command.TheVariants.{Drill}
use Rattle.script_words.specs.declared.values.Statement.{Statement}
use Rattle.script_words.specs.declared.values.Statement.TheVariants as statements
use Rattle.spec_world.specs.Courses.{Line, Does, Forges, Flips, Pushes, Links, Settles}
use Rattle.law_scripts.specs.settings_fit.Fits.{ScriptsAreFew}
use Rattle.law_scripts.proofs.settings_fit.Lines.{read_few}

abbrev pub AtMostOnce : (Event → ℕ) → Type 0
AtMostOnce count = (e : Event) → count e ≤ 1

pub restarts_once : AtMostOnce restarts_of
restarts_once (Submit g op) = omega arith
restarts_once (Open k) = omega arith
restarts_once (Push k slotless pick) = omega arith
restarts_once (Serve k) = omega arith
restarts_once (Take k) = omega arith
restarts_once (Cut k) = omega arith
restarts_once (Drop k) = omega arith
restarts_once Restart = omega arith
restarts_once (Crash k kept) = omega arith
restarts_once (Wait n) = omega arith
restarts_once (Finish refusal) = omega arith

pub submits_once : AtMostOnce submits_of
submits_once (Submit g op) = omega arith
submits_once (Open k) = omega arith
submits_once (Push k slotless pick) = omega arith
submits_once (Serve k) = omega arith
submits_once (Take k) = omega arith
submits_once (Cut k) = omega arith
submits_once (Drop k) = omega arith
submits_once Restart = omega arith
submits_once (Crash k kept) = omega arith
submits_once (Wait n) = omega arith
submits_once (Finish refusal) = omega arith

line_once : (count : Event → ℕ) → AtMostOnce count → (l : Line) → count_line count l ≤ 1
line_once count once (Does e) = once e
line_once count once (Forges k up bytes) = omega arith
line_once count once (Flips k up at mask) = omega arith
line_once count once (Pushes k) = omega arith
line_once count once (Links k) = omega arith
line_once count once Settles = omega arith

lines_once : (count : Event → ℕ) → AtMostOnce count → (ls : List Line) → count_lines count ls ≤ length ls
unfolding count_lines
lines_once count once [] = omega arith
lines_once count once (l ∷ ls) = omega (arith, line_once count once l, lines_once count once ls)

one_line : (before : ℕ) (st : Statement) (rest : List Line) → length (lines_of_statement before st ++ rest) ≤ length rest + 1
one_line before (statements.Setting s) rest = omega arith
one_line before (statements.Operation kind) rest = omega arith
one_line before (statements.Event e) rest = omega arith

as_many : (before : ℕ) (ls : List Said) → length (lines_of before ls) ≤ length ls
unfolding lines_of
as_many before [] = omega arith
as_many before (l ∷ ls) = omega (
  arith,
  one_line before l.statement (lines_of (before + operations_of l.statement) ls),
  as_many (before + operations_of l.statement) ls,
)

pub lines_counted : (count : Event → ℕ) → AtMostOnce count → (ls : List Said) → count_lines count (lines_of 0 ls) ≤ length ls
lines_counted count once ls = omega (arith, lines_once count once (lines_of 0 ls), as_many 0 ls)

counted : (count : Event → ℕ) → AtMostOnce count → (text : List ℕ) (r : Read) → script Drill text ≡ Ok r
    → count_lines count (lines_in r) ≤ 4_194_304
counted count once text r e = omega (arith, lines_counted count once r.lines, read_few text r e)

pub are_few : ScriptsAreFew
are_few text r e = (omega (arith, counted restarts_of restarts_once text r e), omega (arith, counted submits_of submits_once text r e))
