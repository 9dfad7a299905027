use Rattle.std.proofs.Common.{ap, refl, ◌∙◌}
use Rattle.spec_exchange.specs.Step.{expire}
use Rattle.store_opens.specs.declared.open_table.leave.Taken.{Taken}
use Rattle.server_core.proofs.expiry_alone.Back.{back_shown, still_shown}
use Rattle.server_core.proofs.expiry_alone.Written.{nothing_left}
use Rattle.server_core.proofs.expiry_alone.lone.take_back.Goals as goal

pub put_back-requires : goal.put_back-requires
put_back-requires g c = c.requires.0

pub expire_alone-requires : goal.expire_alone-requires
expire_alone-requires g c = c.requires.1

pub returns-in-Ok : goal.returns-in-Ok
returns-in-Ok g c = record {
  shown = λ s o fits stands none x h.
      let b = c.in-Ok.ensures.shows s o fits stands none x (h.opens, h.files) in
      back_shown c.args.server.now.tables c.put_back.new.opens c.put_back.new.tree s o h b.0 b.1;
  back = (refl, refl);
  writes = tt;
  acknowledged = λ told bodies settled. tt;
  any_moment = λ told bodies settled.
      nothing_left g.D.Disk.seen g.D.Disk.may_leave g.D.Disk.moment g.D.Disk.left_since g.met.D.Disk.only_now
      c.args.server.now.journal bodies
      c.args.front.now settled;
  sessions = refl;
  config = refl;
}

pub returns-in-Err : goal.returns-in-Err
returns-in-Err g c = record {
  shown = λ s o fits stands none x h.
      let b = c.in-Err.ensures.shows s o fits stands none x (h.opens, h.files) in
      c.expire_alone.ensures.shown s o
      (still_shown c.args.server.now.tables c.put_back.new.opens c.put_back.new.tree (expire s o) h b.1.0 b.1.1) none
      (ap (λ (t : Taken). t.id) b.0 ∙ x.taken.id_is);
  back = tt;
  writes = c.expire_alone.ensures.writes;
  acknowledged = λ told bodies settled. c.expire_alone.ensures.acknowledged told bodies settled;
  any_moment = c.expire_alone.ensures.any_moment;
  sessions = c.expire_alone.ensures.sessions;
  config = c.expire_alone.ensures.config;
}
