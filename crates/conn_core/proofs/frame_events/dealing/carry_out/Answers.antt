use Rattle.std.proofs.Common.{◌≡◌, ◌+◌, ◌≤◌, ◌∙◌, [], List, length}
use Rattle.std.proofs.Common.{vec_capacity, sym, ap, subst, refl, append-nil, option_map, arith}
use Rattle.spec_exchange.specs.State.{Record}
use Rattle.spec_world.specs.Mishaps.{owning}
use Rattle.conn_core.specs.related.Carrying.{carry_of}
use Rattle.conn_core.specs.served.Serving.{Onward}
use Rattle.conn_core.proofs.frame_events.Ending.{deals_err, first, last, shorts_none}
use Rattle.conn_core.proofs.frame_events.Lists.{same_long}
use Rattle.conn_core.proofs.frame_events.dealing.carry_out.Goals as goal

pub loop-at-init : goal.loop-at-init
loop-at-init g c =
    let items = c.args.dealt.now.replies.items.items in
    let none : length items ≡ 0 = ap (λ l. length l) c.requires.none.0 in (
      c.requires.order,
      refl,
      omega (arith, none),
      c.requires.room,
      shorts_none items c.requires.none.0,
      refl,
      refl,
      λ z s L records f F shows conn frame alone. (
        owning s L f [],
        [],
        first z c.args.conn.now.id c.args.moment.now.time c.args.moment.now.fresh s L f F.messages c.args.asked.now c.args.dealt.now
            c.requires.none.0 c.requires.none.1 frame.messages,
        (subst (λ (l : List Record). g.S.Serve.shows c.args.server.now z.users s L l) (sym (append-nil records)) shows, refl),
      ),
    )

pub returns-in-Err-clause-deals : goal.returns-in-Err-clause-deals
returns-in-Err-clause-deals g c = λ z s L records f F shows conn frame alone.
    let inv = c.loop-at.invariant in
    let q = inv.7 z s L records f F shows conn frame alone in
    let long = inv.1 ∙ same_long c.args.asked.now.bytes.items c.args.asked.now.messages.items F.messages frame.messages in
    deals_err (Onward (g.S.Serve.shows c.step.new.server z.users) (g.S.Serve.stopped c.args.server.now)
    (g.S.Serve.stopped c.step.new.server)) z c.args.conn.now.id c.args.moment.now.time c.args.moment.now.fresh s L
    records f
    F.messages (c.loop-at.at + 1) c.step.new.asked c.step.new.dealt c.in-Err.why
    (c.in-Err.ensures.steps z (g.S.Serve.stopped c.args.server.now) s L records q.1 f F.messages q.0 conn alone long q.3 q.2)

pub loop-at-preserved : goal.loop-at-preserved
loop-at-preserved g c =
    let inv = c.loop-at.invariant in
    let was : length c.loop-at.dealt.replies.items.items ≤ c.loop-at.at = inv.2 in
    let one = c.step.ensures.room.1 in
    let room : length c.args.asked.now.messages.items ≤ vec_capacity c.loop-at.dealt.replies.items = inv.3 in
    let more = c.step.ensures.room.0 in (
      c.step.ensures.order,
      c.step.ensures.same.0 ∙ inv.1,
      omega (arith, was, one),
      omega (arith, room, more),
      c.step.ensures.short inv.4,
      c.step.ensures.same.1 ∙ inv.5,
      c.step.ensures.same.2 ∙ inv.6,
      λ z s L records f F shows conn frame alone.
          let q = inv.7 z s L records f F shows conn frame alone in
          let long = inv.1 ∙ same_long c.args.asked.now.bytes.items c.args.asked.now.messages.items F.messages frame.messages in
          c.in-Ok.ensures.steps z (g.S.Serve.stopped c.args.server.now) s L records q.1 f F.messages q.0 conn alone long q.3 q.2,
    )

pub returns-clause-deals : goal.returns-clause-deals
returns-clause-deals g c = λ z s L records f F shows conn frame alone.
    let inv = c.loop-at.invariant in
    let q = inv.7 z s L records f F shows conn frame alone in
    let count : length c.args.asked.now.messages.items ≡ length F.messages =
    same_long c.args.asked.now.bytes.items c.args.asked.now.messages.items F.messages frame.messages in
    let past : length F.messages ≤ c.loop-at.at =
    omega (arith, count, c.loop-at-test.false, c.len-at-end.ensures, c.args.asked.now.messages.ok.0) in
    last (Onward (g.S.Serve.shows c.loop-at.server z.users) (g.S.Serve.stopped c.args.server.now)
    (g.S.Serve.stopped c.loop-at.server)) z c.args.conn.now.id c.args.moment.now.time c.args.moment.now.fresh s L
    records f
    F.messages c.loop-at.at c.loop-at.asked c.loop-at.dealt (option_map carry_of c.loop-at.carried) q.1 q.0 (inv.1 ∙ count) past q.2 q.3
