-- Of scripts that are read.
use Rattle.std.proofs.Common.{◌≡◌, ◌≤◌, true, List, length, sym, subst}
use Rattle.law_replies.specs.courses.Courses.{AreHonest, course_of}
use Rattle.law_scripts.specs.script_setup.Scripts.{lines_in, settings_in}
use Rattle.spec_exchange.specs.Network.{Event}
use Rattle.law_scripts.specs.settings_fit.Fits.{ScriptsFit}
use Rattle.law_scripts.proofs.settings_fit.Lines.{read_few}
use Rattle.law_scripts.proofs.settling.Scripts.{as_many, few_lines}
use Rattle.spec_world.specs.Courses.{Line}
use Rattle.law_scripts.specs.quiet_runs.Quiet.{EachEnds, LinesEnd, QuietScriptsEnd, are_quiet}

pub quiet_scripts_end : LinesEnd → ScriptsFit → QuietScriptsEnd
quiet_scripts_end end fit text r e seed ls is honest quiet =
    let z = settings_in r seed in
    let low = few_lines (length (lines_in r)) (length r.lines) (as_many 0 r.lines) (read_few text r e) in
    subst (λ (xs : List Line). (es : List Event) × EachEnds z (course_of z xs) es) (sym is)
    (end z ls (record {
      fitting = fit text r e seed;
      honest = subst AreHonest is honest;
      few = subst (λ (xs : List Line). length xs ≤ 16777216) is low;
    }) (subst (λ (xs : List Line). are_quiet xs ≡ true) is quiet))
