use Rattle.std.proofs.Common.{◌≡◌, ℕ, ◌+◌, ◌-◌, ◌∙◌, nat_le, length, ap, arith}
use Rattle.spec_wire.specs.messages.Places.{gap_to_8}
use Rattle.spec_world.specs.Answering as answering
use Rattle.conn_core.proofs.reply_sealing.Rooms.{has_room, fits_by}
use Rattle.conn_core.proofs.reply_sealing.frames.Frames.has_room.Goals as goal

pub returns-clause-room : goal.returns-clause-room
returns-clause-room c = λ fits.
    let x = c.args.self.now in
    fits_by (answering.text_limit x.sealed) (length x.out.items - x.text) c.whole_size.result c.size-2.result c.args.said.now
    c.args.next.now _ (c.whole_size.ensures ∙ ap (λ (k : ℕ). k + gap_to_8 k) c.size.ensures) c.size-2.ensures
    (let long : c.len.result ≡ length x.out.items = (let e = c.len.ensures in grind arith) in
    ap (λ (n : ℕ). nat_le (n - x.text + c.whole_size.result + c.size-2.result) c.limit.result) long
    ∙ ap (λ (n : ℕ). nat_le (length x.out.items - x.text + c.whole_size.result + c.size-2.result) n) c.limit.ensures) fits

pub returns-clause-is : goal.returns-clause-is
returns-clause-is c = λ r n said follows.
    let x = c.args.self.now in
    has_room (answering.text_limit x.sealed) (length x.out.items - x.text) c.whole_size.result c.size-2.result c.args.said.now
    c.args.next.now r n _ said follows
    (c.whole_size.ensures ∙ ap (λ (k : ℕ). k + gap_to_8 k) c.size.ensures) c.size-2.ensures
    (let long : c.len.result ≡ length x.out.items = (let e = c.len.ensures in grind arith) in
    ap (λ (n : ℕ). nat_le (n - x.text + c.whole_size.result + c.size-2.result) c.limit.result) long
    ∙ ap (λ (n : ℕ). nat_le (length x.out.items - x.text + c.whole_size.result + c.size-2.result) n) c.limit.ensures)
