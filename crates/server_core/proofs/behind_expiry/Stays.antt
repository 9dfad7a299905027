-- Where memory may run out, and what stays where nothing changes.
use Rattle.std.proofs.Common.{refl, arith}
use Rattle.std.specs.Prelude.{IfOk, Result, Ok, Err}
use Rattle.journal.specs.disk_journal.Journal.{JournalState, OnlyRoom}
use Rattle.server_checks.specs.declared.tables.Tables.{Tables}
use Rattle.server_plan.specs.reserving.Readies.{TablesKeep}

pub if_ok_by : {X Y : Type 0} {P Q : X → Type 0} (r : Result X Y) → IfOk r P → ((x : X) → P x → Q x) → IfOk r Q
if_ok_by (Ok x) p f = f x p
if_ok_by (Err y) p f = tt

-- ---- nothing changes

pub tables_stay : (t : Tables) → TablesKeep t t
tables_stay t = record {
  config = refl;
  logons = λ keys pending k. k;
  room = λ r. r;
  undated = refl;
  journal = refl;
  version = refl;
}

pub journal_stays : {D : Type 0} (j : JournalState D) → OnlyRoom j j
journal_stays j = (refl, omega arith)
