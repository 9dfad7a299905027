use Rattle.law_snapshots.proofs.drafts.Whole.{entries_stay, restarts, still_sound, still_stands}
use Rattle.law_snapshots.proofs.drafts.compaction_law.Goals as goal

pub returns : goal.returns
returns c = record {
  stands = still_stands;
  restarts = restarts;
  sound = still_sound c.keeps_law.ensures.begins;
  entries = entries_stay c.keeps_law.ensures.begins;
}
