use Rattle.std.proofs.Common.{ap, refl, ◌∙◌}
use Rattle.server_checks.specs.declared.tables.Config.{Config}
use Rattle.server_core.proofs.disk_server.Serving.{ShownBy, answering, refused_faults, refused_halts, refused_stops, refusing, showing}
use Rattle.server_core.proofs.disk_server.Serving.{told_goes, told_never, told_short, told_stops}
use Rattle.server_core.proofs.disk_server.book.Book.carry.Goals as goal

pub returns-in-Ok : goal.returns-in-Ok
returns-in-Ok g c = record {
  short = told_short _ _ _ _ c.told.ensures;
  serves = λ base users s L records h served shape known.
      let new = ap (λ (z : Config). z.users) c.in-Ok.ensures.config ∙ h.0 in
      answering g.D.Disk.told g.D.Disk.seen g.D.Disk.may_leave base
      (ShownBy g.D.Disk.told g.D.Disk.seen g.D.Disk.may_leave base c.event.new.self users) c.event.new.self.state
      (showing g.D.Disk.told g.D.Disk.seen g.D.Disk.may_leave base c.event.new.self users new) users _ s L records _ _ _ _ _ _ h.0 new
      served shape known (c.in-Ok.ensures.step base s L records h.1) c.told.ensures;
  halts = λ base users s L records h.
      told_goes _ _ _ _ _ _ c.told.ensures c.requires (c.in-Ok.ensures.step base s L records h.1).0;
  fault = λ base users s L records h count stop. absurd (told_never _ _ _ _ count c.told.ensures stop);
  stops = λ count stop. told_stops _ _ _ _ count _ c.told.ensures stop;
}

pub returns-in-Err : goal.returns-in-Err
returns-in-Err g c = record {
  short = tt;
  serves = λ base users s L records h served shape known.
      let new = ap (λ (z : Config). z.users) c.in-Err.ensures.config ∙ h.0 in
      refusing g.D.Disk.told g.D.Disk.seen g.D.Disk.may_leave base g.D.Disk.faults
      (ShownBy g.D.Disk.told g.D.Disk.seen g.D.Disk.may_leave base c.event.new.self users) _ c.event.new.self.state
      (showing g.D.Disk.told g.D.Disk.seen g.D.Disk.may_leave base c.event.new.self users new) users _ s L records _ _ _ _ _
      h.0 served c.refused_by.ensures (c.in-Err.ensures.step base s L records h.1);
  halts = λ base users s L records h. refused_halts _ _ _ c.refused_by.ensures c.requires;
  fault = λ base users s L records h count stop.
      refused_faults g.D.Disk.told g.D.Disk.seen g.D.Disk.may_leave base g.D.Disk.faults _ c.event.new.self.state s L records _ _ _ _ _
      count _
      c.requires (c.in-Err.ensures.step base s L records h.1) c.refused_by.ensures refl stop;
  stops = λ count stop. refused_stops _ _ count _ c.refused_by.ensures refl stop;
}
