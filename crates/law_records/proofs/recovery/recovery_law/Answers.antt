use Rattle.law_records.proofs.recovery.Worlds.{recovers, stands_for}
use Rattle.law_records.proofs.recovery.Restarts.{restarted, entries_left}
use Rattle.law_server.proofs.tables.Run.{fitting}
use Rattle.spec_exchange.specs.Network.{run, start}
use Rattle.law_records.proofs.recovery.recovery_law.Goals as goal

pub returns : goal.returns
returns c =
    record {
      stands = λ z es. stands_for z (fitting z) es;
      agree = λ z es. recovers z (fitting z) es;
      restart = λ z es. restarted (run es (start z)).server (run es (start z)).records (recovers z (fitting z) es);
      entries = λ z es. entries_left (run es (start z)).server (run es (start z)).records (fitting z es).listed (fitting z es).root_stays
          (recovers z (fitting z) es);
    }
