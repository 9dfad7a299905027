use Rattle.std.proofs.Common.{◌++◌, sym, subst, ◌∙◌, List, Option, OnOk}
use Rattle.spec_exchange.specs.Fold.{recovered_from, recovery_records}
use Rattle.spec_exchange.specs.State as model
use Rattle.server_core.specs.declared.disk_server.book.Book.{Book}
use Rattle.base_outside.specs.declared.streams.mem_disk.MemDisk.{MemDisk}
use Rattle.spec_crypto.specs.tokens.Tokens.{Users}
use Rattle.world_ends.specs.memory_server.Held.{HoldsBook}
use Rattle.spec_world.specs.Ends.{Logons}
use Rattle.world_steps.proofs.restarting.restart_book.Goals as goal

pub returns-in-Some : goal.returns-in-Some
returns-in-Some c =
    subst (λ (o : Option (Book MemDisk)). OnOk c.renew.result ((users : Users) (s : model.Server) (L : Logons)
    (records : List model.Record) → HoldsBook o users s L records
    → HoldsBook c.renew.new.place users (recovered_from s records) L (records ++ recovery_records records)))
    (sym c.in-Some.is ∙ c.take.ensures.value) c.renew.ensures
