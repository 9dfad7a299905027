-- The server behind an event that has no message.
use Rattle.std.proofs.Common.{◌≡◌, ap, ◌∙◌, List, None}
use Rattle.spec_exchange.specs.State as model
use Rattle.server_checks.specs.declared.tables.Config.{Config}
use Rattle.server_core.specs.Shown.{HoldsServer, config_of, stopped_of}
use Rattle.server_core.specs.declared.server.Server.{Server}
use Rattle.server_core.specs.declared.disk_server.book.Book.{Book}
use Rattle.base_outside.specs.declared.streams.mem_disk.MemDisk.{MemDisk}
use Rattle.spec_crypto.specs.tokens.Tokens.{Users}
use Rattle.world_ends.specs.memory_server.Held.{WorldHolds, may_leave, world_seen, world_told}
use Rattle.spec_world.specs.Ends.{Logons}

-- the same configuration, and no call failed
pub held_on : (b c : Book MemDisk) (users : Users) (s t : model.Server) (L M : Logons) (records more : List model.Record)
    → WorldHolds b users s L records → config_of c.server ≡ config_of b.server → stopped_of c.server ≡ None
    → HoldsServer world_told world_seen may_leave c.server t M more → WorldHolds c users t M more
held_on b c users s t L M records more h config goes held = record {
  held = (ap (λ (v : Config). v.users) config ∙ h.held.0, held);
  goes_on = goes;
}
