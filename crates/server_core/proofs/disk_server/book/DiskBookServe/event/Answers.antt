use Rattle.std.proofs.Common.{refl}
use Rattle.server_core.specs.disk_server.Shown.{ShowsDisk}
use Rattle.server_core.proofs.disk_server.Serving.{ShownBy, goes_not, halts_stopped, never_again, serves_so, stops_goes, stops_same}
use Rattle.server_core.proofs.disk_server.book.DiskBookServe.event.Goals as goal

pub returns-in-Some : goal.returns-in-Some
returns-in-Some g c = record {
  short = tt;
  serves = λ users s L records h served. tt;
  halts = λ users s L records h. halts_stopped _ _ c.in-Some.ensures;
  halted = λ count was. (stops_same _ _ count c.in-Some.ensures was, refl);
  fault = λ users s L records h goes count stop. absurd (never_again _ _ c.in-Some.ensures goes);
  stops = λ count stop. stops_goes _ _ count c.in-Some.ensures stop;
}

pub returns-in-None : goal.returns-in-None
returns-in-None g c = record {
  short = c.go_on.ensures.short;
  serves = λ users s L records h served.
      serves_so (ShownBy g.D.Disk.told g.D.Disk.seen g.D.Disk.may_leave h.0 c.go_on.new.self.server users)
      (λ t M rs. ShowsDisk g.D.Disk.told g.D.Disk.seen g.D.Disk.may_leave c.go_on.new.self users t M rs) (λ t M rs k. (h.0, k)) users s L
      records _ _ _ (c.go_on.ensures.serves h.0 users s L records h.1 served);
  halts = λ users s L records h. c.go_on.ensures.halts h.0 users s L records h.1;
  halted = λ count was. goes_not _ count _ _ _ c.in-None.ensures was;
  fault = λ users s L records h goes count stop. c.go_on.ensures.fault h.0 users s L records h.1 count stop;
  stops = λ count stop. c.go_on.ensures.stops count stop;
}
