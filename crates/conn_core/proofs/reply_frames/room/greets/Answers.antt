use Rattle.std.proofs.Common.{◌≡◌, ℕ, ◌==◌, length, vec_len, ap, ◌∙◌, arith}
use Rattle.conn_core.proofs.reply_frames.Rooms.{greets_first, greets_none, some_is}
use Rattle.conn_core.proofs.reply_frames.room.greets.Goals as goal

pub returns-then-is_empty : goal.returns-then-is_empty
returns-then-is_empty c =
    let ms = c.args.asked.now.messages in
    let count : vec_len ms ≡ length ms.items = omega (arith, ms.ok.0) in
    greets_none ms.items c.is_empty.result (c.is_empty.ensures ∙ ap (λ (n : ℕ). n == 0) count) c.if-is_empty.true

pub checked-requires : goal.checked-requires
checked-requires c =
    let ms = c.args.asked.now.messages in
    let count : vec_len ms ≡ length ms.items = omega (arith, ms.ok.0) in
    some_is ms.items c.is_empty.result (c.is_empty.ensures ∙ ap (λ (n : ℕ). n == 0) count) c.if-is_empty.false

pub returns : goal.returns
returns c = greets_first c.args.asked.now.messages.items c.checked.result.now c.checked.ensures
