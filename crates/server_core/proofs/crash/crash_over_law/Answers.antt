use Rattle.server_core.proofs.crash.Behind.{Alones, Steps}
use Rattle.server_core.proofs.crash.Over.{Behinds, Starts, again_over, left_over, taken_over}
use Rattle.server_core.proofs.crash.crash_over_law.Goals as goal

pub returns : goal.returns
returns c =
    let behinds : Behinds = record {
      over = c.behind_law.ensures.over;
      stepped = c.behind_law.ensures.stepped;
      alone = c.behind_law.ensures.alone;
    } in
    let steps : Steps = record {
      fits = c.keeps_law.ensures.stepped;
      version = c.keeps_law.ensures.version;
      sound = c.keeps_law.ensures.sound;
      stands = c.stands_law.ensures.stepped;
    } in
    let alones : Alones = record {
      fits = c.stands_law.ensures.fits_alone;
      version = c.keeps_law.ensures.version_alone;
      sound = c.keeps_law.ensures.sound_alone;
      stands = c.stands_law.ensures.alone;
    } in
    let starts : Starts = record {
      taken = c.snapshot_start_law.ensures.taken;
      same = c.snapshot_start_law.ensures.same;
      again = c.snapshot_start_law.ensures.again;
    } in
    record {
      left = λ base. left_over base behinds steps alones;
      taken = λ base. taken_over base behinds steps alones starts;
      again = λ base. again_over base behinds steps alones starts;
    }
