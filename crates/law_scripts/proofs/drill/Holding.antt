-- The headline, with its premises on settings and counts met by what was read; and what settling leaves.
use Rattle.std.proofs.Common.{◌≡◌, ℕ, ◌+◌, ◌≤◌, ◌<◌, ◌^◌, List, [], ◌∷◌, ◌++◌, subst, arith}
use Rattle.law_replies.specs.courses.Courses.{AreHonest, count_lines, course_of, restarts_of, submits_of}
use Rattle.spec_exchange.specs.Network.{Event}
use Rattle.law_ties.specs.wire_facts.Fitting.{IsFitting}
use Rattle.spec_world.specs.Courses.{Line}
use Rattle.spec_world.specs.Settings.{WorldSettings}
use Rattle.law_scripts.specs.script_setup.Scripts.{lines_in, settings_in}
use Rattle.law_scripts.specs.headline.Headline.{ActsOnce, Headline}
use Rattle.law_scripts.specs.quiet_runs.Quiet.{QuietScriptsEnd}
use Rattle.law_scripts.specs.settling.Settled.{ScriptsSettle}
use Rattle.law_scripts.specs.settings_fit.Fits.{ScriptsAreFew, ScriptsFit}
use Rattle.law_scripts.specs.drill.Drills.{ScriptsHold}

-- lines in front of others are no more than all
lines_front : (count : Event → ℕ) (before after : List Line) → count_lines count before ≤ count_lines count (before ++ after)
unfolding count_lines
lines_front count [] after = omega arith
lines_front count (l ∷ ls) after = omega (arith, lines_front count ls after)

below : (n m bound : ℕ) → n ≤ m → m < bound → n < bound
below n m bound h f = omega (arith, h, f)

front_below : (count : Event → ℕ) (ls before after : List Line) (bound : ℕ) → ls ≡ before ++ after → count_lines count ls < bound
    → count_lines count before < bound
front_below count ls before after bound e h =
    below (count_lines count before) (count_lines count (before ++ after)) bound (lines_front count before after)
    (subst (λ (l : List Line). count_lines count l < bound) e h)

in_front : Headline → (z : WorldSettings) (ls : List Line) → IsFitting z → count_lines restarts_of ls < 4294967295
    → count_lines submits_of ls < 2 ^ 64 → (before after : List Line) → ls ≡ before ++ after → AreHonest before
    → (es : List Event) × ActsOnce z (course_of z before) es
in_front headline z ls fits restarts submits before after e honest = (headline z before).acts_once (record {
  fitting = fits;
  honest = honest;
  restarts = front_below restarts_of ls before after 4294967295 e restarts;
  submits = front_below submits_of ls before after (2 ^ 64) e submits;
})

pub scripts_hold : Headline → ScriptsFit → ScriptsAreFew → ScriptsSettle → QuietScriptsEnd → ScriptsHold
scripts_hold headline fit few settles ends text r e seed =
    let h = headline (settings_in r seed) (lines_in r) in
    let n = few text r e in
    record {
      acts_once = λ (honest : AreHonest (lines_in r)). h.acts_once (record {
        fitting = fit text r e seed;
        honest = honest;
        restarts = n.0;
        submits = n.1;
      });
      in_front = in_front headline (settings_in r seed) (lines_in r) (fit text r e seed) n.0 n.1;
      negotiated = h.negotiated;
      settled = settles text r e seed;
      each_ends = ends text r e seed;
    }
