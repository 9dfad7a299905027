-- What the lines of a script gave fits, and they are few.
use Rattle.std.proofs.Common.{◌≡◌, ℕ, ◌+◌, ◌-◌, ◌<◌, ◌≤◌, Bool, true, false, not, ◌&&◌, ◌||◌, ◌==◌, nat_le, List, []}
use Rattle.std.proofs.Common.{◌∷◌, ◌++◌, length, take}
use Rattle.std.proofs.Common.{Option, Some, None, Result, Ok, Err, refl, subst, ap, arith, length-append}
use Rattle.std.specs.Str.{is_utf8}
use Rattle.std.proofs.lemmas.Bool.{or_parts}
use Rattle.std.proofs.lemmas.Grind.{common_steps}
use Rattle.script_words.specs.Pieces.{pieces}
use Rattle.script_words.specs.Words.{statement}
use Rattle.script_words.specs.declared.values.Code.{Code}
use Rattle.script_words.specs.declared.values.Code.TheVariants.{BadLine, TooLong}
use Rattle.script_words.specs.declared.values.Command.TheVariants.{Drill}
use Rattle.script_words.specs.declared.values.Given.{Given}
use Rattle.script_words.specs.declared.values.Statement.{Statement}
use Rattle.script_words.specs.declared.values.Statement.TheVariants.{Setting, Operation, Event}
use Rattle.script_words.specs.text_lines.Script.{Read, at_line, creates_said, given_said, judged, line_of, line_saying, lines_from}
use Rattle.script_words.specs.text_lines.Script.{nothing_given, said, says_nothing, script, some, within, without_last_feed}
use Rattle.script_words.specs.declared.text_lines.line.Refusal.{Refusal}
use Rattle.law_scripts.proofs.settings_fit.Readings.{chosen, coded, passed, same, steps, unrefused, value_or}
use Rattle.law_scripts.proofs.settings_fit.Words.{GivenFits, statement_fits}

-- ---- one line

some_is : (r : Result Statement Code) (says : Option Statement) → some r ≡ Ok says → (st : Statement) × (r ≡ Ok st) × (Some st ≡ says)
some_is (Ok st) says e = (st, refl, same (Some st) says e)
some_is (Err why) says e = absurd cc

said_fits : (creates : List Bool) (g : Given) (line : List ℕ) (says : Option Statement) → said Drill creates g line ≡ Ok says
    → GivenFits g → GivenFits (given_said g says)
unfolding said
said_fits creates g line says e h =
    chosen (says_nothing line) _ _ says (unrefused (not (is_utf8 line)) BadLine _ says e).1
    (λ r. subst (λ (v : Option Statement). GivenFits (given_said g v)) (same None says r) h)
    (λ t r. let s = some_is (statement Drill creates g (pieces 32 line)) says r in
    subst (λ (v : Option Statement). GivenFits (given_said g v)) s.2 (statement_fits creates g (pieces 32 line) s.0 s.1 h))

-- a line that is read is none too many, and says what it says by itself
record IsJudged (creates : List Bool) (g : Given) (number : ℕ) (line : List ℕ) (says : Option Statement) : Type 0 where
  said_so : said Drill creates g line ≡ Ok says
  few : number < 4_194_304

fewer : (n m : ℕ) → nat_le m n ≡ false → n < m
fewer n m e = grind (arith, common_steps)

judged_is : (past : Bool) (number : ℕ) (creates : List Bool) (g : Given) (line : List ℕ) (says : Option Statement)
    → judged Drill past number creates g line ≡ Ok says → IsJudged creates g number line says
unfolding judged
judged_is past number creates g line says e =
    let a = unrefused (past || nat_le 4_194_304 number) TooLong _ says e in
    let b = steps (said Drill creates g line) (within (length creates)) says a.1 in
    let p = passed (nat_le (length creates + length (creates_said b.0)) 1_048_576) _ TooLong says b.2 in
    record {
      said_so = subst (λ (v : Option Statement). said Drill creates g line ≡ Ok v) (same b.0 says p.1) b.1;
      few = fewer number 4_194_304 (or_parts past (nat_le 4_194_304 number) a.0).1;
    }

here : (n : ℕ) (r : Result (Option Statement) Code) (says : Option Statement) → at_line n r ≡ Ok says → r ≡ Ok says
here n (Ok x) says e = ap (λ (q : Result (Option Statement) Refusal). coded (value_or x q)) e
here n (Err why) says e = absurd cc

-- ---- all lines

pub lines_fit : (cut : Bool) (number : ℕ) (creates : List Bool) (g : Given) (ls : List (List ℕ)) (r : Read)
    → lines_from Drill cut number creates g ls ≡ Ok r → GivenFits g → GivenFits r.given
unfolding lines_from
lines_fit cut number creates g [] r e h = subst GivenFits (ap (λ (q : Result Read Refusal). (value_or r q).given) e) h
lines_fit cut number creates g (line ∷ more) r e h =
    let a = steps (at_line (number + 1) (judged Drill (cut && length more == 0) number creates g line)) _ r e in
    let b = steps (lines_from Drill cut (number + 1) (creates ++ creates_said a.0) (given_said g a.0) more) _ r a.2 in
    let j = judged_is (cut && length more == 0) number creates g line a.0 (here (number + 1) _ a.0 a.1) in
    subst GivenFits (ap (λ (q : Result Read Refusal). (value_or r q).given) b.2)
    (lines_fit cut (number + 1) (creates ++ creates_said a.0) (given_said g a.0) more b.0 b.1
    (said_fits creates g line a.0 j.said_so h))

one_line : (n : ℕ) (st : Statement) → length (line_of n st) ≤ 1
one_line n (Setting s) = omega arith
one_line n (Operation kind) = omega arith
one_line n (Event e) = omega arith

one_saying : (n : ℕ) (says : Option Statement) → length (line_saying n says) ≤ 1
one_saying n None = omega arith
one_saying n (Some st) = one_line n st

pub lines_few : (cut : Bool) (number : ℕ) (creates : List Bool) (g : Given) (ls : List (List ℕ)) (r : Read)
    → lines_from Drill cut number creates g ls ≡ Ok r → number ≤ 4_194_304 → length r.lines + number ≤ 4_194_304
unfolding lines_from
lines_few cut number creates g [] r e low =
    subst (λ (x : Read). length x.lines + number ≤ 4_194_304) (ap (value_or r) e) (omega (arith, low))
lines_few cut number creates g (line ∷ more) r e low =
    let a = steps (at_line (number + 1) (judged Drill (cut && length more == 0) number creates g line)) _ r e in
    let b = steps (lines_from Drill cut (number + 1) (creates ++ creates_said a.0) (given_said g a.0) more) _ r a.2 in
    let j = judged_is (cut && length more == 0) number creates g line a.0 (here (number + 1) _ a.0 a.1) in
    let below = j.few in
    let rest : length b.0.lines + (number + 1) ≤ 4_194_304 = lines_few cut (number + 1) (creates ++ creates_said a.0)
    (given_said g a.0) more b.0 b.1 (omega (arith, below)) in
    let one = one_saying (number + 1) a.0 in
    subst (λ (x : Read). length x.lines + number ≤ 4_194_304) (ap (value_or r) b.2)
    (omega (arith, length-append (line_saying (number + 1) a.0) b.0.lines, one, rest))

-- ---- a script

nothing_fits : GivenFits nothing_given
nothing_fits = record { users = tt; share = tt }

pub given_fits : (text : List ℕ) (r : Read) → script Drill text ≡ Ok r → GivenFits r.given
unfolding script
given_fits text r e =
    chosen (nat_le (length text) 268_435_456) _ _ r e
    (λ s. lines_fit false 0 [] nothing_given (pieces 10 (without_last_feed text)) r s nothing_fits)
    (λ t s. lines_fit true 0 [] nothing_given (pieces 10 (take 268_435_456 text)) r s nothing_fits)

pub read_few : (text : List ℕ) (r : Read) → script Drill text ≡ Ok r → length r.lines ≤ 4_194_304
unfolding script
read_few text r e =
    chosen (nat_le (length text) 268_435_456) _ _ r e
    (λ s. omega (arith, lines_few false 0 [] nothing_given (pieces 10 (without_last_feed text)) r s (omega arith)))
    (λ t s. omega (arith, lines_few true 0 [] nothing_given (pieces 10 (take 268_435_456 text)) r s (omega arith)))
