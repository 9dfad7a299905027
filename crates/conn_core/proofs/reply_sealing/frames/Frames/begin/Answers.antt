use Rattle.std.proofs.Common.{◌∙◌, ◌++◌, ℕ, replicate, ap, refl, arith}
use Rattle.conn_core.proofs.reply_sealing.Placing.{begun_before, begun_now, room_now}
use Rattle.conn_core.proofs.reply_sealing.frames.Frames.begin.Goals as goal

pub returns-then-self-clause-room : goal.returns-then-self-clause-room
returns-then-self-clause-room c = λ size few fits. fits c.if-self.true

pub returns-then-self-clause-begun : goal.returns-then-self-clause-begun
returns-then-self-clause-begun c = λ keys first nonces done front w.
    begun_before keys first c.args.self.now nonces done front c.if-self.true w

pub returns-clause-room : goal.returns-clause-room
returns-clause-room c = λ size few fits.
    let x = c.args.self.now in
    let room = room_now x.sealed c.put_zeros.new.out.items x.out.items c.len-self.result size few
    (c.in_ok-put_zeros.ensures ∙ ap (λ (n : ℕ). x.out.items ++ replicate n 0) c.front-front.ensures)
    (let e = c.len-self.ensures in grind arith) in
    (refl, room.0, room.1, room.2)

pub returns-clause-begun : goal.returns-clause-begun
returns-clause-begun c = λ keys first nonces done front w.
    let x = c.args.self.now in
    begun_now keys first x _ nonces done front c.if-self.false refl refl
    (c.in_ok-put_zeros.ensures ∙ ap (λ (n : ℕ). x.out.items ++ replicate n 0) c.front-front.ensures)
    (let e = c.len-self.ensures in grind arith) w
