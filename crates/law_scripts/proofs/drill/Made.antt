-- A made script tampers with nothing, and its lines are few.
use Rattle.std.proofs.Common.{◌≡◌, ℕ, ◌+◌, ◌≤◌, true, false, List, [], ◌∷◌, ◌++◌, length, refl, arith}
use Rattle.law_replies.specs.courses.Courses.{AreHonest, count_lines, restarts_of, submits_of, tampers}
use Rattle.law_scripts.specs.script_setup.Scripts.{event_line, lines_in, lines_of, lines_of_statement, operations_of, settings_in}
use Rattle.spec_exchange.specs.Network.{Event}
use Rattle.law_scripts.specs.generated.ReadsBack.{MadeAreFew, made_script, numbered}
use Rattle.law_scripts.specs.headline.Headline.{Headline}
use Rattle.law_scripts.specs.settings_fit.Fits.{DefaultsFit}
use Rattle.law_scripts.proofs.settings_fit.Counts.{AtMostOnce, lines_counted, restarts_once, submits_once}
use Rattle.script_words.specs.generator.Lines.{event_said, line_said}
use Rattle.script_words.specs.generator.Making.{made_lines}
use Rattle.script_words.specs.declared.generator.events.MadeEvent.{MadeEvent}
use Rattle.script_words.specs.declared.generator.events.MadeEvent.TheVariants as happens
use Rattle.script_words.specs.declared.generator.lines.MadeLine.{MadeLine}
use Rattle.script_words.specs.declared.generator.lines.MadeLine.TheVariants as made
use Rattle.spec_world.specs.Courses.{Line}
use Rattle.law_scripts.specs.drill.Drills.{MadeScriptsHold}

-- ---- no line tampers

event_honest : (e : MadeEvent) → tampers (event_line (event_said e)) ≡ false
event_honest (happens.Link k) = refl
event_honest (happens.Push k) = refl
event_honest (happens.Serve k) = refl
event_honest (happens.Cut k) = refl
event_honest (happens.Drop k) = refl
event_honest happens.Restart = refl
event_honest (happens.Crash kept) = refl
event_honest happens.Settle = refl

line_honest : (before : ℕ) (l : MadeLine) (rest : List Line) → AreHonest rest → AreHonest (lines_of_statement before (line_said l) ++ rest)
unfolding AreHonest
line_honest before (made.Event e) rest h = (event_honest e, h)
line_honest before (made.Create file) rest h = (refl, h)
line_honest before (made.Write create at word) rest h = (refl, h)
line_honest before (made.Lock create) rest h = (refl, h)
line_honest before (made.Fill create at) rest h = (refl, h)
line_honest before (made.Read create) rest h = (refl, h)
line_honest before (made.End create) rest h = (refl, h)
line_honest before (made.Unlock create) rest h = (refl, h)
line_honest before (made.Close create) rest h = (refl, h)

all_honest : (before n : ℕ) (ls : List MadeLine) → AreHonest (lines_of before (numbered n ls))
unfolding AreHonest lines_of numbered
all_honest before n [] = tt
all_honest before n (l ∷ ls) =
    line_honest before l (lines_of (before + operations_of (line_said l)) (numbered (n + 1) ls))
    (all_honest (before + operations_of (line_said l)) (n + 1) ls)

-- ---- how many they are

as_many : (n : ℕ) (ls : List MadeLine) → length (numbered n ls) ≤ length ls
unfolding numbered
as_many n [] = omega arith
as_many n (l ∷ ls) = omega (arith, as_many (n + 1) ls)

counted : MadeAreFew → (count : Event → ℕ) → AtMostOnce count → (key operations : ℕ) → operations ≤ 1_048_576
    → count_lines count (lines_in (made_script key operations)) ≤ 9_437_185
counted few count once key operations h =
    let ls : List MadeLine = made_lines key operations in
    omega (arith, h, lines_counted count once (numbered 0 ls), as_many 0 ls, few key operations)

pub made_hold : Headline → DefaultsFit → MadeAreFew → MadeScriptsHold
made_hold headline fit few key operations h seed =
    let r = made_script key operations in
    let held = headline (settings_in r seed) (lines_in r) in
    let restarts = counted few restarts_of restarts_once key operations h in
    let submits = counted few submits_of submits_once key operations h in
    record {
      acts_once = held.acts_once (record {
        fitting = fit true seed;
        honest = all_honest 0 0 (made_lines key operations);
        restarts = omega (arith, restarts);
        submits = omega (arith, submits);
      });
      negotiated = held.negotiated;
    }
