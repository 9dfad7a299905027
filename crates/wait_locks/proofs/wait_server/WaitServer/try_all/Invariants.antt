use Rattle.std.proofs.Common.{◌≡◌, List, vec_len}
use Rattle.spec_exchange.specs.State as model
use Rattle.spec_world.specs.Ends.{Logons}
use Rattle.server_checks.specs.declared.event_heard.event.ServerEvent.{ServerEvent}
use Rattle.server_core.specs.Shown.{HoldsServer, config_of, stopped_of}
use Rattle.std.specs.Prelude.{None}
use Rattle.wait_locks.proofs.Tries.{TriedSo}
use Rattle.wait_locks.proofs.wait_server.WaitServer.try_all.Given as goal

abbrev pub invariant-rounds : goal.invariant-rounds
invariant-rounds g l = record {
  config : (config_of l.self.server) ≡ (config_of l.initial.self.server);
  alloc : l.self.alloc ≡ l.initial.self.alloc;
  ids : l.self.ids_given ≡ l.initial.self.ids_given;
  so : (own : ServerEvent) (s : model.Server) (L : Logons) (records : List model.Record)
      → HoldsServer g.D.Disk.told g.D.Disk.seen g.D.Disk.may_leave l.initial.self.server s L records
      → stopped_of l.initial.self.server ≡ None
      → TriedSo g.D.Disk.told g.D.Disk.seen g.D.Disk.may_leave g.D.Disk.moment g.D.Disk.left_since g.D.Disk.faults l.now own l.initial.self l.initial.finals.items s L records l.self
      l.finals.items;
}

abbrev pub decreases-rounds : goal.decreases-rounds
decreases-rounds g l = vec_len l.self.waiters
