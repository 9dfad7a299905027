use Rattle.std.proofs.Common.{◌+◌, length, arith}
use Rattle.conn_core.proofs.reply_sealing.Placing.{placed_is, room_behind}
use Rattle.conn_core.proofs.reply_sealing.frames.Frames.place.Goals as goal

pub joins-more-requires-clause-text : goal.joins-more-requires-clause-text
joins-more-requires-clause-text c =
    let few = c.requires.fits.0.1 in
    (c.in_ok-begin.ensures.room (64 + length c.args.said.now.body.now) (omega arith) c.requires.room).2

pub joins-more-requires-clause-said : goal.joins-more-requires-clause-said
joins-more-requires-clause-said c = c.requires.fits.0

pub joins-more-requires-clause-next : goal.joins-more-requires-clause-next
joins-more-requires-clause-next c = c.requires.fits.1

pub put-requires : goal.put-requires
put-requires c = c.requires.fits.0

pub returns-clause-room : goal.returns-clause-room
returns-clause-room c =
    let few = c.requires.fits.0.1 in
    let room = c.in_ok-begin.ensures.room (64 + length c.args.said.now.body.now) (omega arith) c.requires.room in
    let same = c.put.ensures.same in
    room_behind c.begin.new.self c.put.new.self c.args.said.now _ c.joins-more.result room same.0 same.1 same.2
    c.in_ok-span.ensures.size c.joins-more.ensures.room

pub returns-clause-inside : goal.returns-clause-inside
returns-clause-inside c =
    let told = c.in_ok-span.ensures.told in
    let size = c.in_ok-span.ensures.size in
    (omega (arith, told.0, told.1, size), omega (arith, told.1))

pub returns-clause-placed : goal.returns-clause-placed
returns-clause-placed c = λ keys first nonces done front r n w said follows.
    let same = c.put.ensures.same in
    let told = c.in_ok-span.ensures.told in
    placed_is keys first c.args.self.now.sealed c.begin.new.self c.put.new.self nonces done front c.args.said.now r _ n _
    c.begin.ensures.sealed (c.in_ok-begin.ensures.begun keys first nonces done front w) said follows
    (c.joins-more.ensures.is r n said) same.0 same.1 same.2 c.in_ok-span.ensures.size
    (c.in_ok-span.ensures.put r said) told.0 told.1
