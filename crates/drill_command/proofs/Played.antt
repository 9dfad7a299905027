-- The run of a script that was read.
use Rattle.std.proofs.Common.{◌≡◌, ℕ, List, sym, ap, subst, ◌∙◌, Result, Ok, Err, MatchResult}
use Rattle.client_ends.specs.dialog_calls.Ending.{CanConnect}
use Rattle.drill_command.specs.Playing.{Drilled, DrillEnds, IsDrillMemory, DrillTells, played, run_of}
use Rattle.law_scripts.specs.script_setup.Scripts.{drill_settings, settings_in}
use Rattle.law_scripts.specs.drill.Drills.{ScriptsHold}
use Rattle.drill_command.specs.drill_text.Text.{IsText}
use Rattle.script_words.specs.text_lines.Script.{Read, script}
use Rattle.script_words.specs.text_lines.Settings.{settings_of}
use Rattle.script_words.specs.declared.text_lines.line.Refusal.{Refusal}
use Rattle.script_words.specs.declared.text_lines.settings.Settings.{Settings}
use Rattle.script_words.specs.Outcome.{◌>>=◌, Fails}
use Rattle.script_words.specs.declared.values.Command.TheVariants.{Drill}
use Rattle.script_words.specs.declared.values.Fault.{Fault}
use Rattle.script_words.specs.declared.values.Fault.TheVariants.{Memory, Refused}
use Rattle.law_ties.specs.wire_facts.Fitting.{IsFitting}
use Rattle.spec_world.specs.Courses.{Course, opening}
use Rattle.spec_world.specs.Events.{bytes_start}
use Rattle.spec_world.specs.Settings.{WorldSettings}
use Rattle.spec_world.specs.World as bytes
use Rattle.world_ends.specs.results.Ended.{ShowsEnded}
use Rattle.world_ends.specs.declared.results.ending.EndedWorld.{EndedWorld}
use Rattle.world_ends.specs.Shown.{ShowsWorld}
use Rattle.world_ends.specs.declared.world.World.{World}
use Rattle.drill_command.specs.script_run.Drives.{ScriptComes}
use Rattle.law_scripts.specs.script_runs.Runs.{SchedulesAreCourses, did_all}

-- ---- what is told behind the lines

pub told_ok : {A : Type 0} (view : A → List ℕ) (z : WorldSettings) (due : Result Course Refusal) (ended : EndedWorld)
    (r : Result A (Fault Refusal))
    → MatchResult r (λ text. (z : WorldSettings) (w : bytes.World) → ShowsEnded z ended w → IsText w.values (view text))
    (λ fault. IsDrillMemory fault)
    → (d : Course) × (due ≡ Ok d) × ShowsEnded z ended d.world → DrillTells view due r
told_ok view z due ended (Ok text) t h = (h.0, h.1, t z h.0.world h.2)
told_ok view z due ended (Err fault) t h = subst (λ (f : Fault Refusal). Fails f due) (sym t) tt

pub ends_by : (z : WorldSettings) (due : Result Course Refusal) (y : World) (ended : EndedWorld) (refused : Result Unit (Fault Refusal))
    → ScriptComes z due y refused → ((z : WorldSettings) (w : bytes.World) → ShowsWorld z y w → ShowsEnded z ended w)
    → DrillEnds z due ended refused
ends_by z due y ended (Ok u) c h = (c.0, c.1, h z c.0.world c.2)
ends_by z due y ended (Err fault) c h = c

pub ran_by : (read : Read) (s : Settings) (seed : List ℕ) (x y : World) (ended : EndedWorld) (refused : Result Unit (Fault Refusal))
    → s ≡ settings_of read.given
    → (CanConnect s.share → ShowsWorld (drill_settings s seed) x (bytes_start (drill_settings s seed)))
    → ((z : WorldSettings) (c : Course) → ShowsWorld z x c.world → ScriptComes z (did_all z 0 read.lines c) y refused)
    → ((z : WorldSettings) (w : bytes.World) → ShowsWorld z y w → ShowsEnded z ended w) → CanConnect (settings_of read.given).share
    → DrillEnds (settings_in read seed) (run_of read seed) ended refused
ran_by read s seed x y ended refused same begun runs ends connects =
    let z = settings_in read seed in
    let shown : ShowsWorld z x (bytes_start z) =
    subst (λ (t : Settings). CanConnect t.share → ShowsWorld (drill_settings t seed) x (bytes_start (drill_settings t seed))) same begun
    connects in
    ends_by z (run_of read seed) y ended refused (runs z (opening z) shown) ends

-- ---- a drill

played_as : (text seed : List ℕ) (read : Read) → script Drill text ≡ Ok read → played text seed ≡ run_of read seed
played_as text seed read said = ap (λ (r : Result Read Refusal). r >>= λ q. run_of q seed) said

failed_run : (text seed : List ℕ) (read : Read) (fault : Fault Refusal) → script Drill text ≡ Ok read → Fails fault (run_of read seed)
    → Fails fault (played text seed)
failed_run text seed read Memory said fails = tt
failed_run text seed read (Refused refusal) said fails = played_as text seed read said ∙ fails

pub failed_text : (text seed : List ℕ) (fault : Fault Refusal) → Fails fault (script Drill text) → Fails fault (played text seed)
failed_text text seed Memory fails = tt
failed_text text seed (Refused refusal) fails = ap (λ (r : Result Read Refusal). r >>= λ q. run_of q seed) fails

-- its share's path fits its field
connects : (read : Read) (seed : List ℕ) → IsFitting (settings_in read seed) → CanConnect (settings_of read.given).share
unfolding drill_settings
connects read seed fitting = fitting.share.short

pub drilled_by : {A : Type 0} (view : A → List ℕ) (text seed : List ℕ) (read : Read) (r : Result A (Fault Refusal)) → ScriptsHold
    → ((text : List ℕ) (r : Read) → script Drill text ≡ Ok r → (seed : List ℕ) → IsFitting (settings_in r seed)) → SchedulesAreCourses
    → script Drill text ≡ Ok read → (CanConnect (settings_of read.given).share → DrillTells view (run_of read seed) r)
    → Drilled view text seed r
drilled_by view text seed read (Ok out) holds fits courses said tells =
    let t = tells (connects read seed (fits text read said seed)) in
    record {
      read = read;
      said = said;
      course = t.0;
      led = t.1;
      own = courses (settings_in read seed) read.lines t.0 t.1;
      holds = holds text read said seed;
      shown = t.2;
    }
drilled_by view text seed read (Err fault) holds fits courses said tells =
    failed_run text seed read fault said (tells (connects read seed (fits text read said seed)))
