-- A whole made script reads back.
use Rattle.std.proofs.Common.{◌≡◌, ℕ, ◌+◌, ◌*◌, ◌^◌, ◌<◌, ◌≤◌, Bool, true, false, if◌then◌else◌, nat_le, List, [], ◌∷◌, ◌++◌, map, length}
use Rattle.std.proofs.Common.{Option, Some, Result, Ok, Err, codes, decimal, refl, ap, ◌∙◌, arith, length-append}
use Rattle.std.specs.Int.{w32, to_le_bytes}
use Rattle.std.proofs.lemmas.Bool.{cond-true, le-leb, lt-leb}
use Rattle.std.proofs.lemmas.Fmt.{length-decimal-le}
use Rattle.hex.specs.Hex.{encode_lower, encode_with}
use Rattle.script_words.specs.generator.Lines.{event_text, line_said, line_text}
use Rattle.script_words.specs.declared.generator.events.MadeEvent.{MadeEvent}
use Rattle.script_words.specs.declared.generator.events.MadeEvent.TheVariants as happens
use Rattle.script_words.specs.declared.generator.lines.MadeLine.{MadeLine}
use Rattle.script_words.specs.declared.generator.lines.MadeLine.TheVariants as made
use Rattle.script_words.specs.text_lines.Script.{Read, at_line, creates_in, creates_said, given_after, given_said}
use Rattle.script_words.specs.text_lines.Script.{judged, line_of, line_saying, lines_from}
use Rattle.script_words.specs.text_lines.Script.{nothing_given, said, script, with_lines, within}
use Rattle.script_words.specs.declared.text_lines.line.Line.{Line}
use Rattle.script_words.specs.declared.text_lines.line.Refusal.{Refusal}
use Rattle.script_words.specs.Outcome.{◌>>=◌}
use Rattle.script_words.specs.declared.values.Code.{Code}
use Rattle.script_words.specs.declared.values.Code.TheVariants.{TooLong}
use Rattle.script_words.specs.declared.values.Command.TheVariants.{Drill}
use Rattle.script_words.specs.declared.values.Given.{Given}
use Rattle.script_words.specs.declared.values.Statement.{Statement}
use Rattle.law_scripts.specs.generated.ReadsBack.{FitsBehind, IsMadeEvent, begun_without_settings, numbered, script_text}
use Rattle.law_scripts.proofs.generated.Lines.{line_within, lines_read}
use Rattle.law_scripts.proofs.generated.Numbers.{then_is}
use Rattle.law_scripts.proofs.generated.Texts.{AreWithin, lines_of_text}

-- ---- lines that fit behind operations

abbrev pub creates_of : MadeLine → List Bool
creates_of l = creates_in (line_said l)

unfoldable pub AreFitting : List Bool → List MadeLine → Type 0
AreFitting creates [] = Unit {0}
AreFitting creates (l ∷ ls) =
    FitsBehind creates l × (length creates + length (creates_of l) ≤ 1_048_576) × AreFitting (creates ++ creates_of l) ls

are_within : (creates : List Bool) (ls : List MadeLine) → AreFitting creates ls → AreWithin ls
unfolding AreFitting AreWithin
are_within creates [] h = tt
are_within creates (l ∷ ls) h = (line_within creates l h.0, are_within (creates ++ creates_of l) ls h.2)

-- ---- what is given behind lines

after_given : (g : Given) (l : MadeLine) → given_after g (line_said l) ≡ record g { begun = true }
after_given g (made.Event e) = refl
after_given g (made.Create file) = refl
after_given g (made.Write create at word) = refl
after_given g (made.Lock create) = refl
after_given g (made.Fill create at) = refl
after_given g (made.Read create) = refl
after_given g (made.End create) = refl
after_given g (made.Unlock create) = refl
after_given g (made.Close create) = refl

unfoldable end_given : Given → List MadeLine → Given
end_given g [] = g
end_given g (l ∷ ls) = end_given (given_after g (line_said l)) ls

still_begun : (ls : List MadeLine) → end_given begun_without_settings ls ≡ begun_without_settings
unfolding end_given
still_begun [] = refl
still_begun (l ∷ ls) = ap (λ (g : Given). end_given g ls) (after_given begun_without_settings l) ∙ still_begun ls

ends_begun : (l : MadeLine) (ls : List MadeLine) → end_given nothing_given (l ∷ ls) ≡ begun_without_settings
unfolding end_given
ends_begun l ls = ap (λ (g : Given). end_given g ls) (after_given nothing_given l) ∙ still_begun ls

-- each is a line of its own
line_alone : (n : ℕ) (l : MadeLine) → line_of n (line_said l) ≡ record { number = n; statement = line_said l } ∷ []
line_alone n (made.Event e) = refl
line_alone n (made.Create file) = refl
line_alone n (made.Write create at word) = refl
line_alone n (made.Lock create) = refl
line_alone n (made.Fill create at) = refl
line_alone n (made.Read create) = refl
line_alone n (made.End create) = refl
line_alone n (made.Unlock create) = refl
line_alone n (made.Close create) = refl

-- ---- one line is read within the limits

within_limit : (b : Bool) (says : Option Statement) → b ≡ true → (if b then Ok says else Err TooLong) ≡ Ok says
within_limit true says e = refl
within_limit false says e = absurd cc

few_lines : (b : Bool) (r : Result (Option Statement) Code) (says : Option Statement) → b ≡ false → r ≡ Ok says
    → (if b then Err TooLong else r) ≡ Ok says
few_lines true r says e h = absurd cc
few_lines false r says e h = h

judged_so : (n : ℕ) (creates : List Bool) (g : Given) (l : MadeLine) → n < 4_194_304 → FitsBehind creates l
    → length creates + length (creates_of l) ≤ 1_048_576 → judged Drill false n creates g (line_text l) ≡ Ok (Some (line_said l))
unfolding judged
judged_so n creates g l few fit room =
    few_lines (nat_le 4_194_304 n) (said Drill creates g (line_text l) >>= within (length creates)) (Some (line_said l)) (lt-leb _ _ few)
    (then_is (said Drill creates g (line_text l)) (within (length creates)) (Some (line_said l)) (Ok (Some (line_said l)))
    (lines_read creates g l fit)
    (within_limit (nat_le (length creates + length (creates_of l)) 1_048_576) (Some (line_said l)) (le-leb _ _ room)))

-- ---- all lines

abbrev read_ok : Read → Result Read Refusal
read_ok r = Ok r

abbrev read_so : Given → ℕ → List MadeLine → Read
read_so g n ls = record { given = end_given g ls; lines = numbered n ls }

lines_read_so : (n : ℕ) (creates : List Bool) (g : Given) (ls : List MadeLine) → AreFitting creates ls → n + length ls ≤ 4_194_304
    → lines_from Drill false n creates g (map line_text ls) ≡ Ok (read_so g n ls)
unfolding lines_from numbered end_given AreFitting
lines_read_so n creates g [] fit few = refl
lines_read_so n creates g (l ∷ ls) fit few =
    let next = creates ++ creates_of l in
    let h = given_after g (line_said l) in
    let all : List (List ℕ) = map line_text ls in
    let rest : Result Read Refusal = lines_from Drill false (n + 1) next h all in
    then_is (at_line (n + 1) (judged Drill false n creates g (line_text l)))
    (λ (says : Option Statement). lines_from Drill false (n + 1) (creates ++ creates_said says) (given_said g says) all
    >>= λ (r : Read). Ok (with_lines (line_saying (n + 1) says) r))
    (Some (line_said l)) (Ok (read_so g n (l ∷ ls)))
    (ap (λ (r : Result (Option Statement) Code). at_line (n + 1) r) (judged_so n creates g l (omega (arith, few)) fit.0 fit.1))
    (then_is rest (λ (r : Read). Ok (with_lines (line_saying (n + 1) (Some (line_said l))) r)) (read_so h (n + 1) ls)
    (Ok (read_so g n (l ∷ ls))) (lines_read_so (n + 1) next h ls fit.2 (omega (arith, few)))
    (ap (λ (front : List Line). read_ok (with_lines front (read_so h (n + 1) ls))) (line_alone (n + 1) l)))

-- ---- a line has at most 64 bytes with its end

number_short : (n : ℕ) → n ≤ 1_048_576 → length (decimal n) ≤ 7
number_short n h = length-decimal-le 7 n (omega arith) (omega (arith, h)) (omega (arith, h))

wide_short : (n : ℕ) → n < 2 ^ 32 → length (decimal n) ≤ 10
wide_short n h = length-decimal-le 10 n (omega arith) (omega (arith, h)) (omega (arith, h))

byte_short : (n : ℕ) → n ≤ 255 → length (decimal n) ≤ 3
byte_short n h = length-decimal-le 3 n (omega arith) (omega (arith, h)) (omega (arith, h))

event_short : (e : MadeEvent) → IsMadeEvent e → length (event_text e) ≤ 63
unfolding event_text
event_short (happens.Link k) h = omega (arith, byte_short k h)
event_short (happens.Push k) h = omega (arith, byte_short k h)
event_short (happens.Serve k) h = omega (arith, byte_short k h)
event_short (happens.Cut k) h = omega (arith, byte_short k h)
event_short (happens.Drop k) h = omega (arith, byte_short k h)
event_short happens.Restart h = omega arith
event_short (happens.Crash true) h = omega arith
event_short (happens.Crash false) h = omega arith
event_short happens.Settle h = omega arith

eight_digits : (n : ℕ) → length (encode_lower (to_le_bytes w32 n)) ≤ 8
unfolding encode_with
eight_digits n = omega arith

line_short : (creates : List Bool) (l : MadeLine) → FitsBehind creates l → length (line_text l) ≤ 63
unfolding line_text
line_short creates (made.Event e) h = event_short e h
line_short creates (made.Create file) h =
    omega (arith, length-append (decimal file) (codes " rw - openif persist"), wide_short file h)
line_short creates (made.Write create at word) h =
    omega (
      arith,
      length-append (decimal create) (codes " " ++ (decimal at ++ (codes " " ++ encode_lower (to_le_bytes w32 word)))),
      length-append (decimal at) (codes " " ++ encode_lower (to_le_bytes w32 word)),
      number_short create h.0.few,
      wide_short at h.1,
      eight_digits word,
    )
line_short creates (made.Lock create) h =
    omega (arith, length-append (decimal create) (codes " 0 10 exclusive"), number_short create h.few)
line_short creates (made.Fill create at) h =
    omega (
      arith,
      length-append (decimal create) (codes " " ++ (decimal at ++ codes " 50 61")),
      length-append (decimal at) (codes " 50 61"),
      number_short create h.0.few,
      wide_short at h.1,
    )
line_short creates (made.Read create) h = omega (arith, length-append (decimal create) (codes " 0 200"), number_short create h.few)
line_short creates (made.End create) h = omega (arith, length-append (decimal create) (codes " 100"), number_short create h.few)
line_short creates (made.Unlock create) h = omega (arith, length-append (decimal create) (codes " 0 10"), number_short create h.few)
line_short creates (made.Close create) h = omega (arith, number_short create h.few)

text_short : (creates : List Bool) (ls : List MadeLine) → AreFitting creates ls → length (script_text ls) ≤ 64 * length ls
unfolding AreFitting
text_short creates [] h = omega arith
text_short creates (l ∷ ls) h =
    omega (
      arith,
      length-append (line_text l ++ 10 ∷ []) (script_text ls),
      length-append (line_text l) (10 ∷ []),
      line_short creates l h.0,
      text_short (creates ++ creates_of l) ls h.2,
    )

pub script_reads : (l : MadeLine) (ls : List MadeLine) → AreFitting [] (l ∷ ls) → length (l ∷ ls) ≤ 4_194_304
    → script Drill (script_text (l ∷ ls)) ≡ Ok (record { given = begun_without_settings; lines = numbered 0 (l ∷ ls) })
unfolding script
script_reads l ls fit few =
    let bytes : length (script_text (l ∷ ls)) ≤ 268_435_456 = omega (arith, text_short [] (l ∷ ls) fit, few) in
    cond-true (nat_le (length (script_text (l ∷ ls))) 268_435_456) _ _ (le-leb _ _ bytes)
    ∙ (ap (λ (ws : List (List ℕ)). lines_from Drill false 0 [] nothing_given ws) (lines_of_text l ls (are_within [] (l ∷ ls) fit))
    ∙ (lines_read_so 0 [] nothing_given (l ∷ ls) fit (omega (arith, few))
    ∙ ap (λ (g : Given). read_ok (record { given = g; lines = numbered 0 (l ∷ ls) })) (ends_begun l ls)))
