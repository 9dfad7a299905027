-- A server that begins anew on the disk of one that goes on.
use Rattle.std.proofs.Common.{◌≡◌, ℕ, ◌≤◌, ◌++◌, [], length, arith, sym, ap, subst, ◌∙◌, List, None, Result, Ok, Err, IfOk}
use Rattle.spec_exchange.specs.Fold.{recovered_from, recovery_records}
use Rattle.spec_exchange.specs.State as model
use Rattle.server_core.specs.server_start.Begun.{ServerBegins}
use Rattle.server_core.specs.declared.disk_server.book.Book.{Book}
use Rattle.server_checks.specs.declared.tables.Config.{Config}
use Rattle.server_core.specs.Shown.{config_of, disk_of, state_of}
use Rattle.server_core.specs.declared.server.Server.{Server}
use Rattle.server_core.specs.journaled_tables.Holds.{JournaledHolds as HoldsState}
use Rattle.server_core.specs.declared.journaled_tables.state.ServerState.{ServerState}
use Rattle.base_outside.specs.declared.streams.mem_disk.MemDisk.{MemDisk}
use Rattle.spec_crypto.specs.tokens.Tokens.{Users}
use Rattle.world_ends.specs.memory_server.Held.{WorldHolds, may_leave, world_seen, world_told}
use Rattle.spec_world.specs.Ends.{Logons}

abbrev pub faults : MemDisk → ℕ
faults d = d.faults

-- begun_law's clause at a disk in memory
abbrev pub Again : Type 0
Again = (old new : ServerState MemDisk) (s : model.Server) (L M : Logons) (records : List model.Record)
    → HoldsState world_told world_seen may_leave old s L records → old.stopped ≡ None
    → ServerBegins world_told world_seen may_leave faults old.tables.config old.journal.disk new
    → HoldsState world_told world_seen may_leave new (recovered_from s records) M (records ++ recovery_records records)

-- an empty disk has at most 9 bytes
no_bytes : length {A = ℕ} [] ≤ 9
no_bytes = omega arith

pub is_short : (disk : MemDisk) → disk.bytes ≡ [] → length disk.bytes ≤ 9
is_short disk e = subst (λ (bytes : List ℕ). length bytes ≤ 9) (sym e) no_bytes

pub with_both : {T E : Type 0} {P Q R : T → Type 0} (r : Result T E) → IfOk r P → IfOk r Q → ((x : T) → P x → Q x → R x) → IfOk r R
with_both (Ok x) p q f = f x p q
with_both (Err e) p q f = tt

pub begun_again : Again → (book b : Book MemDisk) (config : Config) (disk : MemDisk) (users : Users) (s : model.Server) (L : Logons)
    (records : List model.Record) → config ≡ config_of book.server → disk ≡ disk_of book.server
    → ServerBegins world_told world_seen may_leave faults config disk (state_of b.server) → config_of b.server ≡ config
    → WorldHolds book users s L records
    → WorldHolds b users (recovered_from s records) L (records ++ recovery_records records)
begun_again again book b config disk users s L records same there begins is h =
    let own : ServerBegins world_told world_seen may_leave faults (config_of book.server) (disk_of book.server) (state_of b.server) =
    subst (λ (v : Config). ServerBegins world_told world_seen may_leave faults v (disk_of book.server) (state_of b.server)) same
    (subst (λ (d : MemDisk). ServerBegins world_told world_seen may_leave faults config d (state_of b.server)) there begins) in
    record {
      held = (
        ap (λ (v : Config). v.users) (is ∙ same) ∙ h.held.0,
        again (state_of book.server) (state_of b.server) s L L records h.held.1 h.goes_on own,
      );
      goes_on = begins.0;
    }
