-- No line of a script gives up.
use Rattle.std.proofs.Common.{◌≡◌, ℕ, ◌+◌, false, List, [], ◌∷◌, ◌++◌, refl}
use Rattle.law_scripts.specs.script_setup.Scripts.{event_line, lines_in, lines_of, lines_of_statement, operations_of, settings_in}
use Rattle.script_words.specs.declared.text_lines.line.Line.{Line as Said}
use Rattle.script_words.specs.declared.values.ScriptEvent.{ScriptEvent}
use Rattle.script_words.specs.declared.values.ScriptEvent.TheVariants as events
use Rattle.script_words.specs.declared.values.Statement.{Statement}
use Rattle.script_words.specs.declared.values.Statement.TheVariants as statements
use Rattle.spec_world.specs.Courses.{Line}
use Rattle.law_scripts.specs.schedules.Schedules.{NoneGivesUp, SchedulesEnd, ScriptsEnd, gives_up_line}

event_stays : (e : ScriptEvent) → gives_up_line (event_line e) ≡ false
event_stays (events.Open k) = refl
event_stays (events.Push k) = refl
event_stays (events.Serve k) = refl
event_stays (events.Take k) = refl
event_stays (events.Cut k) = refl
event_stays (events.Drop k) = refl
event_stays events.Restart = refl
event_stays (events.Crash k kept) = refl
event_stays (events.Forge k up bytes) = refl
event_stays (events.Flip k up at mask) = refl
event_stays (events.Wait time) = refl
event_stays (events.Link k) = refl
event_stays events.Settle = refl

statement_stays : (before : ℕ) (st : Statement) (rest : List Line) → NoneGivesUp rest → NoneGivesUp (lines_of_statement before st ++ rest)
unfolding NoneGivesUp
statement_stays before (statements.Setting s) rest h = h
statement_stays before (statements.Operation kind) rest h = (refl, h)
statement_stays before (statements.Event e) rest h = (event_stays e, h)

pub lines_stay : (before : ℕ) (ls : List Said) → NoneGivesUp (lines_of before ls)
unfolding lines_of NoneGivesUp
lines_stay before [] = tt
lines_stay before (l ∷ ls) =
    statement_stays before l.statement (lines_of (before + operations_of l.statement) ls)
    (lines_stay (before + operations_of l.statement) ls)

pub scripts_end : SchedulesEnd → ScriptsEnd
scripts_end ends r seed = ends (settings_in r seed) (lines_in r) (lines_stay 0 r.lines)
