use Rattle.std.proofs.Common.{◌≡◌, ◌-◌, ℕ, ap, arith}
use Rattle.spec_world.specs.Answering as answering
use Rattle.conn_core.specs.reply_sealing.Saying.{front_size}
use Rattle.conn_core.proofs.reply_sealing.Finishing.{closed_plain}
use Rattle.conn_core.proofs.reply_sealing.frames.Frames.finish.Goals as goal

pub close_sealed-requires-clause-text : goal.close_sealed-requires-clause-text
close_sealed-requires-clause-text c =
    let size : front_size c.args.self.now.sealed ≡ 56 = ap front_size c.if-self.true in
    let is = c.front.ensures in
    let fits = c.requires.front.0 in
    omega arith

pub close_sealed-requires-clause-short : goal.close_sealed-requires-clause-short
close_sealed-requires-clause-short c =
    let limit : answering.text_limit c.args.self.now.sealed ≡ 1114060 = ap answering.text_limit c.if-self.true in
    let short = c.requires.short in
    omega arith

pub close-requires : goal.close-requires
close-requires c =
    let size : front_size c.args.self.now.sealed ≡ 4 = ap front_size c.if-self.false in
    let is = c.front.ensures in
    let fits = c.requires.front.0 in
    let whole = c.requires.front.1 in
    omega arith

pub returns : goal.returns
returns c =
    let x = c.args.self.now in
    closed_plain x _ c.args.nonces.now c.args.keys (x.text - c.front.result) c.if-self.false c.requires.front.0
    (ap (λ (n : ℕ). x.text - n) c.front.ensures) c.close.ensures.out c.close.ensures.closed.0 c.close.ensures.closed.1
