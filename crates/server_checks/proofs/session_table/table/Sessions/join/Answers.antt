use Rattle.std.proofs.Common.{refl, nat_eq}
use Rattle.std.specs.HashMap.{get}
use Rattle.server_checks.proofs.session_table.Kept.{is_there}
use Rattle.server_checks.proofs.session_table.Whole.{joined}
use Rattle.server_checks.proofs.session_table.table.Sessions.join.Goals as goal

pub returns-clause-shows : goal.returns-clause-shows
returns-clause-shows c = λ s h there few.
    let t = c.args.self.now in
    joined t (record t { rows = c.draw_channel.new.rows; links = c.put_live.new.links }) c.args.connection
    c.args.session c.draw_channel.result s
    (record {
      row = record { others = c.draw_channel.ensures.others; len = c.draw_channel.ensures.len; epoch = refl; given = refl };
      here = c.draw_channel.ensures.here;
      links = c.put_live.ensures;
      there = is_there (get nat_eq t.links c.args.connection) c.requires.0;
      order = refl;
    }) h there few
