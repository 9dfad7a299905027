use Rattle.law_server.proofs.tables.Applied.{expire_keeps, journal_keeps}
use Rattle.law_server.proofs.tables.Folded.{folded_keeps, recovered_fits}
use Rattle.law_server.proofs.tables.Sound.{sound_expiry}
use Rattle.law_server.proofs.tables.Stepped.{stepped, take_out_keeps}
use Rattle.law_records.proofs.tables.Begins.{nothing_fits}
use Rattle.law_records.proofs.tables.Due.{due_open}
use Rattle.law_records.proofs.tables.Version.{expired_version, version_stays}
use Rattle.law_records.proofs.tables.keeps_law.Goals as goal

pub returns : goal.returns
returns c = record {
  begins = nothing_fits;
  stepped = λ s now e i. (stepped s now e i).0;
  expired = expire_keeps;
  folded = folded_keeps;
  recovered = recovered_fits;
  taken_out = take_out_keeps;
  counted = λ s n i. journal_keeps s n i;
  due = due_open;
  sound = λ s now e i. (stepped s now e i).1;
  sound_alone = sound_expiry;
  version = version_stays;
  version_alone = expired_version;
}
