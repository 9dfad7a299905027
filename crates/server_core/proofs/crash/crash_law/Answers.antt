use Rattle.server_core.proofs.crash.Behind.{Alones, Reads, Steps, again, left, taken}
use Rattle.server_core.proofs.crash.crash_law.Goals as goal

pub returns : goal.returns
returns c =
    let steps : Steps = record {
      fits = c.keeps_law.ensures.stepped;
      version = c.keeps_law.ensures.version;
      sound = c.keeps_law.ensures.sound;
      stands = c.stands_law.ensures.stepped;
    } in
    let alones : Alones = record {
      fits = c.stands_law.ensures.fits_alone;
      version = c.keeps_law.ensures.version_alone;
      sound = c.keeps_law.ensures.sound_alone;
      stands = c.stands_law.ensures.alone;
    } in
    let reads : Reads = record {
      taken = c.restart_law.ensures.taken;
      same = c.restart_law.ensures.same;
      stands = c.restart_law.ensures.stands;
      entries = c.restart_law.ensures.entries;
    } in
    record {
      left = left c.behind_law.ensures.spelled steps alones;
      taken = taken c.behind_law.ensures.spelled steps alones reads;
      again = again c.behind_law.ensures.spelled steps alones reads;
    }
