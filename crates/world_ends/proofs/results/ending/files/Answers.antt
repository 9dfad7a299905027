use Rattle.std.proofs.Common.{Option, subst}
use Rattle.std.proofs.lemmas.Result.{IfOk-weaker}
use Rattle.server_core.specs.declared.disk_server.book.Book.{Book}
use Rattle.base_outside.specs.declared.streams.mem_disk.MemDisk.{MemDisk}
use Rattle.world_ends.specs.memory_server.Held.{HoldsBook}
use Rattle.world_ends.proofs.results.ending.files.Goals as goal

pub returns-in-Some : goal.returns-in-Some
returns-in-Some c =
    IfOk-weaker c.files.result _ _
    (λ v told z w h. told w.values.server w.logons
    (subst (λ (o : Option (Book MemDisk)). HoldsBook o z.server.users w.values.server w.logons w.values.records) c.in-Some.is
    h.server).held.1.shown) c.files.ensures
