use Rattle.std.proofs.Common.{refl, sym}
use Rattle.serve_command.proofs.Renewals.{never_both}
use Rattle.serve_command.proofs.SpaceAhead.{readied, readied_calm, readied_fault}
use Rattle.serve_command.proofs.lasting_book.book.LastingBookLasting.renew.Goals as goal

pub returns-in-Some : goal.returns-in-Some
returns-in-Some g c = record {
  renewed = λ users s L records h goes. absurd (never_both _ _ goes (sym c.in-Some.ensures));
  fault = λ users s L records h goes count stop. absurd (never_both _ _ goes (sym c.in-Some.ensures));
  calm = λ users s L records h goes on. absurd (never_both _ _ goes (sym c.in-Some.ensures));
  stays = λ count was. refl;
  readies = λ goes. absurd (never_both _ _ goes (sym c.in-Some.ensures));
}

pub returns-in-None : goal.returns-in-None
returns-in-None g c = record {
  renewed = λ users s L records h goes. readied g.D.Disk.told g.D.Disk.seen g.D.Disk.may_leave g.D.Disk.faults c.args.self.now
      c.ready.new.self users s L records c.ready.ensures h goes;
  fault = λ users s L records h goes count stop. readied_fault g.D.Disk.told g.D.Disk.seen g.D.Disk.may_leave g.D.Disk.faults
      c.args.self.now c.ready.new.self users s L records c.ready.ensures h goes count stop;
  calm = λ users s L records h goes on. readied_calm g.D.Disk.told g.D.Disk.seen g.D.Disk.may_leave g.D.Disk.faults
      c.args.self.now c.ready.new.self users s L records c.ready.ensures h goes on;
  stays = λ count was. absurd (never_both _ count (sym c.in-None.ensures) was);
  readies = λ goes. c.ready.ensures;
}
