use Rattle.std.proofs.Common.{length, refl}
use Rattle.server_core.proofs.event_memory.Rooms.{has_room, is_small, room_yet, tables_stay}
use Rattle.server_core.proofs.event_memory.room.make_room.Goals as goal

pub reserve_body-requires : goal.reserve_body-requires
reserve_body-requires g c =
    is_small c.args.server.now.tables.journal (length c.args.body.now) c.requires

pub returns-in-Ok-prepare : goal.returns-in-Ok-prepare
returns-in-Ok-prepare g c = record {
  room = c.in-Ok-prepare.ensures.room;
  written = has_room (record c.args.server.now { journal = c.reserve_body.new.journal; tables = c.prepare.new.t })
      c.args.server.now.tables.journal (length c.args.body.now) c.args.body.now c.in-Ok.ensures.room refl c.requires
      c.in-Ok-prepare.ensures.kept.journal;
  front = λ front h.
      room_yet c.args.server.now (record c.args.server.now { journal = c.reserve_body.new.journal; tables = c.prepare.new.t }) front
      c.in-Ok.ensures.kept c.in-Ok-prepare.ensures.kept.journal h;
  shown = λ s fits shown agrees able owing. c.in-Ok-prepare.ensures.shown s fits shown agrees able owing;
  step = λ L logons. c.in-Ok-prepare.ensures.step L logons;
  kept = c.in-Ok-prepare.ensures.kept;
  journal = (c.in-Ok.ensures.kept, refl);
  sure = λ none wants. refl;
}

pub returns-in-Err-prepare : goal.returns-in-Err-prepare
returns-in-Err-prepare g c = record {
  room = tt;
  written = tt;
  front = λ front h.
      room_yet c.args.server.now (record c.args.server.now { journal = c.reserve_body.new.journal; tables = c.prepare.new.t }) front
      c.in-Ok.ensures.kept c.in-Err-prepare.ensures.kept.journal h;
  shown = λ s fits shown agrees able owing. (c.in-Err-prepare.ensures.shown s fits shown agrees able owing, tt);
  step = λ L logons. tt;
  kept = c.in-Err-prepare.ensures.kept;
  journal = (c.in-Ok.ensures.kept, refl);
  sure = λ none wants. c.in-Err-prepare.ensures.sure wants;
}

pub returns-in-Err : goal.returns-in-Err
returns-in-Err g c = record {
  room = tt;
  written = tt;
  front = λ front h.
      room_yet c.args.server.now (record c.args.server.now { journal = c.reserve_body.new.journal }) front c.in-Err.ensures.kept refl h;
  shown = λ s fits shown agrees able owing. (shown, c.in-Err.ensures.lack);
  step = λ L logons. tt;
  kept = tables_stay c.args.server.now.tables;
  journal = (c.in-Err.ensures.kept, refl);
  sure = λ none wants. c.in-Err.ensures.none none;
}
