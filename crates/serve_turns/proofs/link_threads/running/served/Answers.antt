use Rattle.std.proofs.Common.{◌+◌}
use Rattle.serve_turns.specs.shared_book.Words.{view_of}
use Rattle.serve_turns.proofs.link_threads.running.served.Goals as goal

pub returns-then-turned_away-clause-serves : goal.returns-then-turned_away-clause-serves
returns-then-turned_away-clause-serves g c =
    (c.turn_away-end.new.link, c.turn_away-end.ensures (c.args.place + 1) (view_of c.args.seat))
