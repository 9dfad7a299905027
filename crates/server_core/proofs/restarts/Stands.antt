-- Where a server stands behind a restart, under any configuration.
use Rattle.std.proofs.Common.{ℕ, List}
use Rattle.spec_exchange.specs.Fold.{Configuration, recovered}
use Rattle.spec_exchange.specs.Opens.{file_has_open}
use Rattle.spec_exchange.specs.State.{Record, Server}
use Rattle.law_records.specs.recovery.Recovers.{RecordRecovers}
use Rattle.law_records.specs.recovery.Restarted.{EntriesLeft, Restarted}
use Rattle.law_records.proofs.recovery.Restarts.{entries_left, restarted}
use Rattle.law_server.specs.tables.Fits.{Fits}

pub stands_again : (s : Server) (rs : List Record) (z : Configuration) (count : ℕ) → RecordRecovers rs s
    → Restarted s (recovered z count rs)
stands_again s rs z count r =
    let h = restarted s rs r in
    record {
      epoch = h.epoch;
      open_ids_given = h.open_ids_given;
      session_ids_given = h.session_ids_given;
      opens = h.opens;
      standing = h.standing;
      opened = h.opened;
      lock_sequences = h.lock_sequences;
      by_guid = h.by_guid;
      ranges = h.ranges;
      next_file = h.next_file;
      directory = h.directory;
      delete_pending = h.delete_pending;
      basic = h.basic;
      content = h.content;
      expired_guids = h.expired_guids;
      expired_count = h.expired_count;
      bare = h.bare;
    }

pub files_again : (s : Server) (rs : List Record) (z : Configuration) (count : ℕ) → Fits s → RecordRecovers rs s
    → EntriesLeft s (recovered z count rs)
unfolding file_has_open
files_again s rs z count i r =
    let h = entries_left s rs i.listed i.root_stays r in
    record { were = h.were; not_pending = h.not_pending; held = h.held; held_pending = h.held_pending; opened = h.opened }
