use Rattle.std.proofs.Common.{◌≡◌, ◌≤◌, ◌<◌, length, vec_len, vec_capacity, refl, sym, subst, ◌∙◌, arith}
use Rattle.std.proofs.lemmas.Option.{slice_get_within}
use Rattle.conn_core.specs.declared.frame_messages.checked.Checked.{Checked}
use Rattle.conn_core.specs.served.Refusing.{IsMessageRefused}
use Rattle.conn_core.proofs.frame_events.Lists.{one_message}
use Rattle.conn_core.proofs.frame_events.handing.refuse.Goals as goal

pub checked-requires : goal.checked-requires
checked-requires c = slice_get_within c.args.asked.now.messages.items c.args.at c.requires.message.0 c.requires.message.1

pub returns-in-Ok-push-clause-refuses : goal.returns-in-Ok-push-clause-refuses
returns-in-Ok-push-clause-refuses c = λ m here.
    let a = c.checked.result.now in
    let same : a ≡ m = one_message a m (sym c.checked.ensures ∙ here) in (
      c.in-Ok.reply,
      subst (λ (n : Checked). IsMessageRefused n c.args.status c.in-Ok.reply) same c.in-Ok.ensures,
      c.in-Ok-push.ensures.ok,
      refl,
      λ k is. c.carry-behind.ensures m k here is,
    )

-- there is room
pub returns-in-Err-push-clause-refuses : goal.returns-in-Err-push-clause-refuses
returns-in-Err-push-clause-refuses c = λ m here.
    let items = c.args.dealt.now.replies.items in
    let room : length items.items < vec_capacity items = c.requires.room in
    let count : vec_len items ≡ length items.items = omega (arith, items.ok.0) in
    let full : vec_capacity items ≤ vec_len items = c.in-Err-push.ensures.err.1 in
    absurd (omega (arith, room, count, full))
