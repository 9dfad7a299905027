-- What a script that is read sets up and drives.
use Rattle.std.specs.Prelude.{◌≡◌, ℕ, ◌<◌, ◌^◌, Bool, List, Ok}
use Rattle.law_replies.specs.courses.Courses.{count_lines, restarts_of, submits_of}
use Rattle.law_scripts.specs.script_setup.Scripts.{drill_settings, lines_in, settings_in}
use Rattle.script_words.specs.text_lines.Script.{Read, nothing_given, script}
use Rattle.script_words.specs.text_lines.Settings.{settings_of}
use Rattle.script_words.specs.declared.values.Command.TheVariants.{Drill}
use Rattle.law_ties.specs.wire_facts.Fitting.{IsFitting}

-- its settings are such that the laws on runs speak of them, whatever the run draws
abbrev pub ScriptsFit : Type 0
ScriptsFit = (text : List ℕ) (r : Read) → script Drill text ≡ Ok r → (seed : List ℕ) → IsFitting (settings_in r seed)

-- those of a script that gives none, with lines or without
abbrev pub DefaultsFit : Type 0
DefaultsFit = (begun : Bool) (seed : List ℕ) → IsFitting (drill_settings (settings_of (record nothing_given { begun = begun })) seed)

-- fewer restarts and operations than 32 and 64 bits count
abbrev pub ScriptsAreFew : Type 0
ScriptsAreFew =
    (text : List ℕ) (r : Read) → script Drill text ≡ Ok r →
    (count_lines restarts_of (lines_in r) < 4294967295) × (count_lines submits_of (lines_in r) < 2 ^ 64)
