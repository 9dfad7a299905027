use Rattle.std.proofs.Common.{Bool, Ok, sym, subst, arith}
use Rattle.conn_core.specs.reply_sealing.Joining.{ReplyEndsBy}
use Rattle.conn_core.proofs.reply_sealing.Placing.{ends_by, goes_by, shut_by, not_both}
use Rattle.conn_core.proofs.reply_sealing.frames.Frames.end.Goals as goal

pub returns-then-more-clause-ends : goal.returns-then-more-clause-ends
returns-then-more-clause-ends c = λ first done front t b.
    let x = c.args.self.now in
    subst (λ (m : Bool). ReplyEndsBy c.args.keys first x.sealed m c.args.nonces.now x c.args.nonces.now done front t
    (Ok tt)) (sym c.if-more.true)
    (goes_by c.args.keys first x.sealed x c.args.nonces.now done front t tt b)

pub finish-requires-clause-front : goal.finish-requires-clause-front
finish-requires-clause-front c = let room = c.requires c.if-more.false in (room.1, room.2)

pub finish-requires-clause-short : goal.finish-requires-clause-short
finish-requires-clause-short c = let room = (c.requires c.if-more.false).3 in omega (arith, room)

pub returns-clause-goes_on : goal.returns-clause-goes_on
returns-clause-goes_on c = λ more. absurd (not_both c.args.more more c.if-more.false)

pub returns-clause-shut : goal.returns-clause-shut
returns-clause-shut c = λ more.
    shut_by c.args.self.now c.finish.new.self c.args.nonces.now c.finish.new.nonces c.args.keys c.finish.result c.finish.ensures

pub returns-clause-ends : goal.returns-clause-ends
returns-clause-ends c = λ first done front t b.
    let x = c.args.self.now in
    subst (λ (m : Bool). ReplyEndsBy c.args.keys first x.sealed m c.args.nonces.now c.finish.new.self
    c.finish.new.nonces done front t c.finish.result)
    (sym c.if-more.false)
    (ends_by c.args.keys first x c.finish.new.self c.args.nonces.now c.finish.new.nonces done front t c.finish.result b c.finish.ensures)
