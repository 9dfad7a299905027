-- One line more of a script.
use Rattle.std.specs.Prelude.{◌≡◌, ◌+◌, [], ◌++◌, Option, Result, Ok, MatchResult}
use Rattle.script_words.specs.Outcome.{Fails}
use Rattle.script_words.specs.declared.values.Fault.{Fault}
use Rattle.script_words.specs.declared.values.Fault.TheVariants.{Memory}
use Rattle.script_words.specs.declared.values.Statement.{Statement}
use Rattle.script_words.specs.text_lines.Script.{creates_said, given_said, nothing_given, line_saying}
use Rattle.script_words.specs.declared.text_lines.line.Refusal.{Refusal}
use Rattle.script_words.specs.declared.text_lines.lines.Progress.{Progress}

-- nothing was read yet
pub record ReadingBegins (p : Progress) : Type 0 where
  pub number : p.number ≡ 0
  pub creates : p.creates.items ≡ []
  pub given : p.given ≡ nothing_given
  pub lines : p.lines.items ≡ []

-- one line more, which says this
pub record ReadingKept (old new : Progress) (says : Option Statement) : Type 0 where
  pub number : new.number ≡ old.number + 1
  pub creates : new.creates.items ≡ old.creates.items ++ creates_said says
  pub given : new.given ≡ given_said old.given says
  pub lines : new.lines.items ≡ old.lines.items ++ line_saying (old.number + 1) says

-- it is kept, or memory runs out
abbrev pub ReadingKeeps : Progress → Progress → Result (Unit {0}) (Fault Refusal) → Option Statement → Type 0
ReadingKeeps old new result says = MatchResult result (λ _. ReadingKept old new says) (λ fault. fault ≡ Memory)

-- the next line says this
pub record ReadingSays (old new : Progress) (due : Result (Option Statement) Refusal) : Type 0 where
  pub says : Option Statement
  pub is : due ≡ Ok says
  pub kept : ReadingKept old new says

-- what was read grows by what is due, or fails as that does
abbrev pub ReadingAdvances : Progress → Progress → Result (Unit {0}) (Fault Refusal) → Result (Option Statement) Refusal → Type 0
ReadingAdvances old new result due = MatchResult result (λ _. ReadingSays old new due) (λ fault. Fails fault due)
