use Rattle.client_channels.proofs.channel_turns.Stepping.{aside_lack, lack_told}
use Rattle.serve_turns.specs.shared_book.Words.{view_of}
use Rattle.client_channels.proofs.channel_turns.passing.lack.Goals as goal

pub returns-clause-lacks : goal.returns-clause-lacks
returns-clause-lacks g c = λ a k s.
    aside_lack a k s (view_of c.args.seat.now).own (view_of c.tell.new.seat).own
    (lack_told (view_of c.args.seat.now).own (view_of c.tell.new.seat).own c.tell.result c.tell.ensures.turns)

pub returns-clause-tells : goal.returns-clause-tells
returns-clause-tells g c = lack_told (view_of c.args.seat.now).own (view_of c.tell.new.seat).own c.tell.result c.tell.ensures.turns
