use Rattle.std.proofs.Common.{sym}
use Rattle.server_core.proofs.disk_server.Serving.{ShownBy, room_halts, room_never, room_stops, showing, unchanged}
use Rattle.server_core.proofs.disk_server.book.Book.go_on.Goals as goal

pub returns-in-Ok : goal.returns-in-Ok
returns-in-Ok g c = record {
  short = c.go_with.ensures.short;
  serves = λ base users s L records h served. c.go_with.ensures.serves base users s L records h served (c.in-Ok.ensures base s L records h.1);
  halts = λ base users s L records h. c.go_with.ensures.halts base users s L records h;
  fault = λ base users s L records h count stop. c.go_with.ensures.fault base users s L records h count stop;
  stops = λ count stop. c.go_with.ensures.stops count stop;
}

pub returns-in-Err : goal.returns-in-Err
returns-in-Err g c = record {
  short = tt;
  serves = λ base users s L records h served.
      unchanged g.D.Disk.told g.D.Disk.seen g.D.Disk.may_leave base
      (ShownBy g.D.Disk.told g.D.Disk.seen g.D.Disk.may_leave base c.args.self.now.server users) c.args.self.now.server.state
      (showing g.D.Disk.told g.D.Disk.seen g.D.Disk.may_leave base c.args.self.now.server users h.0) users s L records _ _ served h.1;
  halts = λ base users s L records h. room_halts _ (sym c.requires);
  fault = λ base users s L records h count stop. absurd (room_never count stop);
  stops = λ count stop. room_stops _ count stop;
}
