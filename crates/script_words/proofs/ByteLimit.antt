-- A script that is read keeps the limit on bytes.
use Rattle.std.proofs.Common.{◌≡◌, ℕ, ◌+◌, List, [], ◌∷◌, ◌++◌, length, nat_eq, refl, sym, ◌∙◌, take, ◌<◌, ◌≤◌, Bool, true, false}
use Rattle.std.proofs.Common.{◌⊎◌, inl, inr, arith}
use Rattle.std.proofs.lemmas.Bool.Decides.{leb_tells}
use Rattle.std.specs.Prelude.{◌&&◌, ◌==◌, Result, Ok, Err}
use Rattle.script_words.proofs.text_lines.LineLemmas.{script_cut}
use Rattle.script_words.specs.text_lines.Script.{Read, at_line, creates_said, given_said, judged, line_saying}
use Rattle.script_words.specs.text_lines.Script.{lines_from, nothing_given, script, with_lines}
use Rattle.script_words.proofs.PieceLemmas.{pieces_left_over}
use Rattle.script_words.specs.Outcome.{◌>>=◌}
use Rattle.script_words.specs.Pieces.{pieces}
use Rattle.script_words.specs.declared.values.Command.{Command}
use Rattle.script_words.specs.declared.values.Given.{Given}

bind_ok : {A B E : Type 0} (r : Result A E) (f : A → Result B E) (y : B) → (r >>= f) ≡ Ok y → (x : A) × (r ≡ Ok x) × (f x ≡ Ok y)
bind_ok (Ok x) f y h = (x, refl, h)
bind_ok (Err e) f y h = cc

-- the last line of a text that was cut is refused
cut_is_refused : (command : Command) (number : ℕ) (creates : List Bool) (given : Given) (line : List ℕ) (more : List (List ℕ)) (read : Read)
    → lines_from command true number creates given (line ∷ more) ≡ Ok read → ⊥
unfolding lines_from judged
cut_is_refused command number creates given line [] read h = cc
cut_is_refused command number creates given line (next ∷ more) read h =
    let first = bind_ok (at_line (number + 1) (judged command (true && length (next ∷ more) == 0) number creates given line))
    (λ says. lines_from command true (number + 1) (creates ++ creates_said says) (given_said given says) (next ∷ more) >>= λ rest.
    Ok (with_lines (line_saying (number + 1) says) rest)) read h in
    let rest = bind_ok (lines_from command true (number + 1) (creates ++ creates_said first.0) (given_said given first.0) (next ∷ more))
    (λ rest. Ok (with_lines (line_saying (number + 1) first.0) rest)) read first.2 in
    cut_is_refused command (number + 1) (creates ++ creates_said first.0) (given_said given first.0) next more rest.0 rest.1

pieces_refused : (command : Command) (left : List (List ℕ)) (read : Read) → nat_eq (length left) 0 ≡ false
    → lines_from command true 0 [] nothing_given left ≡ Ok read → ⊥
pieces_refused command [] read some h = cc
pieces_refused command (line ∷ more) read some h = cut_is_refused command 0 [] nothing_given line more read h

within_or_past : (a b : ℕ) → (a ≤ b) ⊎ (b < a)
within_or_past a b = grind (arith, leb_tells a b)

pub keeps_limit : (command : Command) (text : List ℕ) (read : Read) → script command text ≡ Ok read → length text ≤ 268_435_456
keeps_limit command text read said = elim (within_or_past (length text) 268_435_456) as (λ _. length text ≤ 268_435_456) [
  | inl short ↦ short
  | inr long ↦ absurd (pieces_refused command (pieces 10 (take 268_435_456 text)) read
      (pieces_left_over 10 (take 268_435_456 text)) (sym (script_cut command text long) ∙ said))
]
