-- Of scripts that are read: their settings fit and their lines are few.
use Rattle.std.proofs.Common.{ℕ, ◌+◌, ◌≤◌, List, [], ◌∷◌, ◌++◌, length, sym, subst, arith}
use Rattle.law_replies.specs.courses.Courses.{AreHonest}
use Rattle.law_scripts.specs.script_setup.Scripts.{lines_in, lines_of, lines_of_statement, operations_of, settings_in}
use Rattle.script_words.specs.declared.text_lines.line.Line.{Line as Said}
use Rattle.script_words.specs.declared.values.Statement.{Statement}
use Rattle.script_words.specs.declared.values.Statement.TheVariants as statements
use Rattle.law_scripts.specs.settings_fit.Fits.{ScriptsFit}
use Rattle.law_scripts.proofs.settings_fit.Lines.{read_few}
use Rattle.spec_world.specs.Courses.{Line}
use Rattle.law_scripts.specs.settling.Settled.{LeavesNone, LinesSettle, ScriptsSettle}

one_line : (before : ℕ) (st : Statement) (rest : List Line) → length (lines_of_statement before st ++ rest) ≤ length rest + 1
one_line before (statements.Setting s) rest = omega arith
one_line before (statements.Operation kind) rest = omega arith
one_line before (statements.Event e) rest = omega arith

pub as_many : (before : ℕ) (ls : List Said) → length (lines_of before ls) ≤ length ls
unfolding lines_of
as_many before [] = omega arith
as_many before (l ∷ ls) = omega (
  arith,
  one_line before l.statement (lines_of (before + operations_of l.statement) ls),
  as_many (before + operations_of l.statement) ls,
)

pub few_lines : (n m : ℕ) → n ≤ m → m ≤ 4_194_304 → n ≤ 16777216
few_lines n m l h = omega (arith, l, h)

pub scripts_settle : LinesSettle → ScriptsFit → ScriptsSettle
scripts_settle settle fit text r e seed ls is honest =
    let z = settings_in r seed in
    let low = few_lines (length (lines_in r)) (length r.lines) (as_many 0 r.lines) (read_few text r e) in
    subst (LeavesNone z) (sym is)
    (settle z ls (record {
      fitting = fit text r e seed;
      honest = subst AreHonest is honest;
      few = subst (λ (xs : List Line). length xs ≤ 16777216) is low;
    }))
