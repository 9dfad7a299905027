use Rattle.std.proofs.Common.{◌∙◌, ◌+◌, ℕ, ◌++◌, List, take, drop, Ok, ap, subst, arith}
use Rattle.conn_core.specs.reply_sealing.Saying.{framed}
use Rattle.conn_core.specs.reply_sealing.Joining.{SealsAt}
use Rattle.conn_core.proofs.reply_sealing.Parts.{written}
use Rattle.conn_core.proofs.reply_sealing.Finishing.{closed_sealed, not_sealed}
use Rattle.conn_core.proofs.reply_sealing.frames.Frames.close_sealed.Goals as goal

pub close-requires : goal.close-requires
close-requires c =
    let whole = c.requires.whole in
    let at = c.requires.text in
    rw (written c.seal.new.out c.args.self.now.out.items c.args.self.now.out.len (grind arith)) (grind arith)

pub returns-in-Ok : goal.returns-in-Ok
returns-in-Ok c =
    let x = c.args.self.now in
    let front = c.args.front in
    let mid : List ℕ = c.seal.new.out in
    closed_sealed x _ c.args.nonces.now c.seal.new.nonces c.args.keys front mid c.in-Ok.field-0 c.requires.sealed
    c.requires.text c.requires.whole
    (subst (λ (l : List ℕ). SealsAt (front + 4) l c.args.nonces.now c.args.keys mid c.seal.new.nonces
    (Ok c.in-Ok.field-0)) c.deref_mut.ensures.value
    c.in-Ok.ensures)
    (c.close.ensures.out ∙ ap (λ (l : List ℕ). take front l ++ framed (drop (front + 4) l))
    (written mid x.out.items x.out.len (grind arith)))
    c.close.ensures.closed.0 c.close.ensures.closed.1

pub returns-in-Err : goal.returns-in-Err
returns-in-Err c =
    not_sealed c.args.self.now c.args.self.now c.args.nonces.now c.seal.new.nonces c.args.keys (c.args.front + 4)
    c.deref_mut.result.now c.seal.new.out
    c.in-Err.cause c.requires.sealed c.in-Err.ensures
