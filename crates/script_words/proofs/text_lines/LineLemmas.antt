-- The lines so far, and the lines of the rest.
use Rattle.std.proofs.Common.{◌≡◌, ℕ, ◌+◌, List, [], ◌∷◌, ◌++◌, length, refl, sym, ap, ◌∙◌, append_assoc}
use Rattle.std.proofs.Common.{append-nil, subst, take, ◌<◌, ◌≤◌, Bool, true, false}
use Rattle.std.specs.Prelude.{nat_le}
use Rattle.std.proofs.lemmas.Bool.{cond-true, cond-false, le-leb, lt-leb}
use Rattle.std.specs.Prelude.{◌&&◌, ◌==◌, Option, Result, Ok, Err}
use Rattle.script_words.specs.Outcome.{◌>>=◌, Fails}
use Rattle.script_words.specs.declared.values.Command.{Command}
use Rattle.script_words.specs.declared.values.Fault.{Fault}
use Rattle.script_words.specs.declared.values.Fault.TheVariants.{Memory, Refused}
use Rattle.script_words.specs.declared.values.Given.{Given}
use Rattle.script_words.specs.declared.values.Statement.{Statement}
use Rattle.script_words.specs.text_lines.Progress.{ReadingSays}
use Rattle.script_words.specs.text_lines.Script.{Read, with_lines, script, without_last_feed, lines_of, lines_from}
use Rattle.script_words.specs.text_lines.Script.{judged, at_line, line_saying}
use Rattle.script_words.specs.text_lines.Script.{creates_said, given_said}
use Rattle.script_words.specs.declared.text_lines.line.Line.{Line}
use Rattle.script_words.specs.declared.text_lines.line.Refusal.{Refusal}
use Rattle.script_words.specs.declared.text_lines.lines.Progress.{Progress}

-- what was read, put before what the rest gives
abbrev pub with_front : List Line → Result Read Refusal → Result Read Refusal
with_front front (Ok rest) = Ok (with_lines front rest)
with_front front (Err refusal) = Err refusal

pub fronts : (a b : List Line) (r : Result Read Refusal)
    → with_front a (r >>= λ rest. Ok (with_lines b rest)) ≡ with_front (a ++ b) r
fronts a b (Ok rest) = ap (λ ls. Ok (record { given = rest.given; lines = ls })) (sym (append_assoc a b rest.lines))
fronts a b (Err refusal) = refl

-- what the lines that are left give behind those that were read
abbrev pub left_of : Command → Bool → Progress → List (List ℕ) → Result Read Refusal
left_of command cut p more = with_front p.lines.items (lines_from command cut p.number p.creates.items p.given more)

-- a line that says this, and then the rest
one_more : (command : Command) (front : List Line) (cut : Bool) (number : ℕ) (creates : List Bool) (given : Given)
    (line : List ℕ) (more : List (List ℕ)) (says : Option Statement)
    → at_line (number + 1) (judged command (cut && length more == 0) number creates given line) ≡ Ok says
    → with_front (front ++ line_saying (number + 1) says)
    (lines_from command cut (number + 1) (creates ++ creates_said says) (given_said given says) more)
    ≡ with_front front (lines_from command cut number creates given (line ∷ more))
unfolding lines_from
one_more command front cut number creates given line more says is =
    rw is (sym (fronts front (line_saying (number + 1) says)
    (lines_from command cut (number + 1) (creates ++ creates_said says) (given_said given says) more)))

-- a refused line ends the reading
refused : (command : Command) (front : List Line) (cut : Bool) (number : ℕ) (creates : List Bool) (given : Given)
    (line : List ℕ) (more : List (List ℕ)) (refusal : Refusal)
    → at_line (number + 1) (judged command (cut && length more == 0) number creates given line) ≡ Err refusal
    → with_front front (lines_from command cut number creates given (line ∷ more)) ≡ Err refusal
unfolding lines_from
refused command front cut number creates given line more refusal is = rw is refl

-- the same, by what a reader of one line says
pub goes_on : (command : Command) (old new : Progress) (cut past : Bool) (line : List ℕ) (more left : List (List ℕ))
    (all : Result Read Refusal)
    → past ≡ (cut && length more == 0)
    → ReadingSays old new (at_line (old.number + 1) (judged command past old.number old.creates.items old.given line))
    → left ≡ line ∷ more
    → left_of command cut old left ≡ all
    → left_of command cut new more ≡ all
goes_on command old new cut past line more left all is said split so_far =
    let due = subst (λ p. at_line (old.number + 1) (judged command p old.number old.creates.items old.given line) ≡ Ok said.says) is
    said.is in
    rw (said.kept.lines, said.kept.number, said.kept.creates, said.kept.given)
    (one_more command old.lines.items cut old.number old.creates.items old.given line more said.says due
    ∙ (ap (λ ls. left_of command cut old ls) (sym split) ∙ so_far))

-- and where it refuses the line
pub fails_there : (command : Command) (old : Progress) (cut past : Bool) (line : List ℕ) (more left : List (List ℕ))
    (all : Result Read Refusal) (fault : Fault Refusal)
    → past ≡ (cut && length more == 0)
    → Fails fault (at_line (old.number + 1) (judged command past old.number old.creates.items old.given line))
    → left ≡ line ∷ more
    → left_of command cut old left ≡ all
    → Fails fault all
fails_there command old cut past line more left all Memory is due split so_far = tt
fails_there command old cut past line more left all (Refused refusal) is due split so_far =
    sym so_far
    ∙ (ap (λ ls. left_of command cut old ls) split
    ∙ refused command old.lines.items cut old.number old.creates.items old.given line more refusal
    (subst (λ p. at_line (old.number + 1) (judged command p old.number old.creates.items old.given line) ≡ Err refusal) is due))

-- where none is left all was read
pub all_read : (command : Command) (p : Progress) (cut : Bool) (left : List (List ℕ)) (all : Result Read Refusal)
    → left ≡ []
    → left_of command cut p left ≡ all
    → all ≡ Ok (record { given = p.given; lines = p.lines.items })
unfolding lines_from
all_read command p cut left all none so_far =
    sym so_far ∙ (ap (λ ls. left_of command cut p ls) none
    ∙ ap (λ ls. Ok (record { given = p.given; lines = ls })) (append-nil p.lines.items))

-- a text within the limit, and one that passes it
pub script_whole : (command : Command) (text : List ℕ) → length text ≤ 268_435_456
    → script command text ≡ lines_of command false (without_last_feed text)
unfolding script
script_whole command text short = cond-true (nat_le (length text) 268_435_456) _ _ (le-leb _ _ short)

pub script_cut : (command : Command) (text : List ℕ) → 268_435_456 < length text
    → script command text ≡ lines_of command true (take 268_435_456 text)
unfolding script
script_cut command text long = cond-false (nat_le (length text) 268_435_456) _ _ (lt-leb _ _ long)
