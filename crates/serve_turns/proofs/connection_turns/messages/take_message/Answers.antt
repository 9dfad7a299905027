use Rattle.std.proofs.Common.{◌≡◌, ◌<◌, length, option_map, Ok, Err, Some, sym, ap, subst, ◌∙◌, arith}
use Rattle.spec_world.specs.Related.{failed_as, turn_of}
use Rattle.conn_core.specs.declared.frame_messages.checked.CheckedFrame.{CheckedFrame}
use Rattle.conn_core.specs.frame_messages.Checking.{AreDenied, AreInOrder, holds_setup, message_in}
use Rattle.conn_core.proofs.frame_messages.Places.{each_has}
use Rattle.conn_core.specs.related.Carrying.{Inherits, carry_of}
use Rattle.serve_turns.specs.shared_book.Words.{view_of}
use Rattle.serve_turns.specs.connection_turns.Messages.{TakesMessage}
use Rattle.serve_turns.proofs.connection_turns.Stepping.{long_more, short_more, takes_failed, takes_going}
use Rattle.serve_turns.proofs.connection_turns.messages.take_message.Goals as goal

pub goes-requires : goal.goes-requires
goes-requires g c = each_has c.args.asked.now c.requires.order c.args.at c.requires.there

pub deal_in_turn-requires-clause-message : goal.deal_in_turn-requires-clause-message
deal_in_turn-requires-clause-message g c =
    let count : length c.goes.new.asked.messages.items ≡ length c.args.asked.now.messages.items = c.goes.ensures.others.count in
    each_has c.goes.new.asked (c.goes.ensures.order c.requires.order) c.args.at (omega (arith, count, c.requires.there))

pub returns-then-not-goes-clause-takes : goal.returns-then-not-goes-clause-takes
returns-then-not-goes-clause-takes g c =
    let now = c.args.moment.now.time in
    let fresh = c.args.moment.now.fresh in
    let old = c.args.asked.now in
    let x = c.goes.new.asked in
    let y = option_map carry_of c.args.carried.now in
    let less : c.args.at < length old.messages.items = c.requires.there in
    let count : length x.messages.items ≡ length old.messages.items = c.goes.ensures.others.count in
    let m = each_has old c.requires.order c.args.at less in
    let n = each_has x (c.goes.ensures.order c.requires.order) c.args.at (omega (arith, count, less)) in
    let placed = c.goes.ensures.place m.0 n.0 m.1 n.1 in
    takes_failed (view_of c.args.seat.now) now fresh c.args.state.now old x c.args.at c.args.carried.now c.args.dealt.now
    m.0 n.0
    (record {
      order = c.requires.order;
      less = less;
      others = c.goes.ensures.others;
      was = m.1;
      here = n.1;
      span = placed.0;
      link = placed.1;
      setups = c.goes.ensures.setups;
    })
    (λ b is link none. subst (λ v. Inherits (turn_of y b) v (failed_as y b) n.0 (message_in x.bytes.items n.0)) c.if-not-goes.true
    (c.goes.ensures.turn m.0 n.0 b m.1 n.1 is link none))

pub returns-in-Ok-clause-takes : goal.returns-in-Ok-clause-takes
returns-in-Ok-clause-takes g c =
    let now = c.args.moment.now.time in
    let fresh = c.args.moment.now.fresh in
    let old = c.args.asked.now in
    let x = c.goes.new.asked in
    let y = option_map carry_of c.args.carried.now in
    let less : c.args.at < length old.messages.items = c.requires.there in
    let count : length x.messages.items ≡ length old.messages.items = c.goes.ensures.others.count in
    let m = each_has old c.requires.order c.args.at less in
    let n = each_has x (c.goes.ensures.order c.requires.order) c.args.at (omega (arith, count, less)) in
    let placed = c.goes.ensures.place m.0 n.0 m.1 n.1 in
    subst (λ (q : CheckedFrame). TakesMessage (view_of c.args.seat.now) now fresh c.args.state.now old c.args.at y
    c.args.dealt.now
    c.deal_in_turn.new.state q c.deal_in_turn.new.dealt (Ok (Some c.in-Ok.behind)) (view_of c.deal_in_turn.new.seat))
    (sym c.deal_in_turn.ensures.frame)
    (takes_going (view_of c.args.seat.now) (view_of c.deal_in_turn.new.seat) now fresh c.args.state.now
    c.deal_in_turn.new.state old x
    c.args.at y c.args.dealt.now c.deal_in_turn.new.dealt m.0 n.0
    (record {
      order = c.requires.order;
      less = less;
      others = c.goes.ensures.others;
      was = m.1;
      here = n.1;
      span = placed.0;
      link = placed.1;
      setups = c.goes.ensures.setups;
    }) (Ok c.in-Ok.behind)
    (λ b is link none. subst (λ v. Inherits (turn_of y b) v (failed_as y b) n.0 (message_in x.bytes.items n.0)) c.if-not-goes.false
    (c.goes.ensures.turn m.0 n.0 b m.1 n.1 is link none)) (c.in-Ok.ensures.deals n.0 n.1))

pub returns-in-Err-clause-takes : goal.returns-in-Err-clause-takes
returns-in-Err-clause-takes g c =
    let now = c.args.moment.now.time in
    let fresh = c.args.moment.now.fresh in
    let old = c.args.asked.now in
    let x = c.goes.new.asked in
    let y = option_map carry_of c.args.carried.now in
    let less : c.args.at < length old.messages.items = c.requires.there in
    let count : length x.messages.items ≡ length old.messages.items = c.goes.ensures.others.count in
    let m = each_has old c.requires.order c.args.at less in
    let n = each_has x (c.goes.ensures.order c.requires.order) c.args.at (omega (arith, count, less)) in
    let placed = c.goes.ensures.place m.0 n.0 m.1 n.1 in
    subst (λ (q : CheckedFrame). TakesMessage (view_of c.args.seat.now) now fresh c.args.state.now old c.args.at y
    c.args.dealt.now
    c.deal_in_turn.new.state q c.deal_in_turn.new.dealt (Err c.in-Err.why) (view_of c.deal_in_turn.new.seat))
    (sym c.deal_in_turn.ensures.frame)
    (takes_going (view_of c.args.seat.now) (view_of c.deal_in_turn.new.seat) now fresh c.args.state.now
    c.deal_in_turn.new.state old x
    c.args.at y c.args.dealt.now c.deal_in_turn.new.dealt m.0 n.0
    (record {
      order = c.requires.order;
      less = less;
      others = c.goes.ensures.others;
      was = m.1;
      here = n.1;
      span = placed.0;
      link = placed.1;
      setups = c.goes.ensures.setups;
    }) (Err c.in-Err.why)
    (λ b is link none. subst (λ v. Inherits (turn_of y b) v (failed_as y b) n.0 (message_in x.bytes.items n.0)) c.if-not-goes.false
    (c.goes.ensures.turn m.0 n.0 b m.1 n.1 is link none)) (c.in-Err.ensures.deals n.0 n.1))

pub returns-in-Ok-clause-order : goal.returns-in-Ok-clause-order
returns-in-Ok-clause-order g c =
    subst (λ (q : CheckedFrame). AreInOrder q) (sym c.deal_in_turn.ensures.frame) (c.goes.ensures.order c.requires.order)

pub returns-in-Ok-clause-denied : goal.returns-in-Ok-clause-denied
returns-in-Ok-clause-denied g c =
    subst (λ (q : CheckedFrame). AreDenied q) (sym c.deal_in_turn.ensures.frame) (c.goes.ensures.denied c.requires.denied)

pub returns-in-Ok-clause-kept : goal.returns-in-Ok-clause-kept
returns-in-Ok-clause-kept g c =
    let back = c.deal_in_turn.ensures.frame in (
      ap (λ (q : CheckedFrame). length q.messages.items) back ∙ c.goes.ensures.others.count,
      ap (λ (q : CheckedFrame). q.sealed) back ∙ c.goes.ensures.others.sealed,
      ap (λ (q : CheckedFrame). q.moment) back ∙ c.goes.ensures.others.moment,
    )

pub returns-in-Ok-clause-room : goal.returns-in-Ok-clause-room
returns-in-Ok-clause-room g c =
    let now = c.args.moment.now.time in
    let fresh = c.args.moment.now.fresh in
    let count : length c.goes.new.asked.messages.items ≡ length c.args.asked.now.messages.items = c.goes.ensures.others.count in
    let n = each_has c.goes.new.asked (c.goes.ensures.order c.requires.order) c.args.at (omega (arith, count, c.requires.there)) in (
      c.deal_in_turn.ensures.room,
      long_more (view_of c.args.seat.now) (view_of c.deal_in_turn.new.seat) now fresh c.args.state.now
          c.deal_in_turn.new.state
          c.goes.new.asked c.args.at n.0 (option_map carry_of c.args.carried.now) c.args.dealt.now c.deal_in_turn.new.dealt (Ok c.in-Ok.behind)
          (c.in-Ok.ensures.deals n.0 n.1),
    )

pub returns-in-Ok-clause-short : goal.returns-in-Ok-clause-short
returns-in-Ok-clause-short g c = λ short.
    let now = c.args.moment.now.time in
    let fresh = c.args.moment.now.fresh in
    let count : length c.goes.new.asked.messages.items ≡ length c.args.asked.now.messages.items = c.goes.ensures.others.count in
    let n = each_has c.goes.new.asked (c.goes.ensures.order c.requires.order) c.args.at (omega (arith, count, c.requires.there)) in
    short_more (view_of c.args.seat.now) (view_of c.deal_in_turn.new.seat) now fresh c.args.state.now c.deal_in_turn.new.state
    c.goes.new.asked c.args.at n.0 (option_map carry_of c.args.carried.now) c.args.dealt.now c.deal_in_turn.new.dealt (Ok c.in-Ok.behind)
    (c.in-Ok.ensures.deals n.0 n.1) short

pub returns-in-Err-clause-order : goal.returns-in-Err-clause-order
returns-in-Err-clause-order g c =
    subst (λ (q : CheckedFrame). AreInOrder q) (sym c.deal_in_turn.ensures.frame) (c.goes.ensures.order c.requires.order)

pub returns-in-Err-clause-denied : goal.returns-in-Err-clause-denied
returns-in-Err-clause-denied g c =
    subst (λ (q : CheckedFrame). AreDenied q) (sym c.deal_in_turn.ensures.frame) (c.goes.ensures.denied c.requires.denied)

pub returns-in-Err-clause-kept : goal.returns-in-Err-clause-kept
returns-in-Err-clause-kept g c =
    let back = c.deal_in_turn.ensures.frame in (
      ap (λ (q : CheckedFrame). length q.messages.items) back ∙ c.goes.ensures.others.count,
      ap (λ (q : CheckedFrame). q.sealed) back ∙ c.goes.ensures.others.sealed,
      ap (λ (q : CheckedFrame). q.moment) back ∙ c.goes.ensures.others.moment,
    )

pub returns-in-Err-clause-room : goal.returns-in-Err-clause-room
returns-in-Err-clause-room g c =
    let now = c.args.moment.now.time in
    let fresh = c.args.moment.now.fresh in
    let count : length c.goes.new.asked.messages.items ≡ length c.args.asked.now.messages.items = c.goes.ensures.others.count in
    let n = each_has c.goes.new.asked (c.goes.ensures.order c.requires.order) c.args.at (omega (arith, count, c.requires.there)) in (
      c.deal_in_turn.ensures.room,
      long_more (view_of c.args.seat.now) (view_of c.deal_in_turn.new.seat) now fresh c.args.state.now
          c.deal_in_turn.new.state
          c.goes.new.asked c.args.at n.0 (option_map carry_of c.args.carried.now) c.args.dealt.now c.deal_in_turn.new.dealt (Err c.in-Err.why)
          (c.in-Err.ensures.deals n.0 n.1),
    )

pub returns-in-Err-clause-short : goal.returns-in-Err-clause-short
returns-in-Err-clause-short g c = λ short.
    let now = c.args.moment.now.time in
    let fresh = c.args.moment.now.fresh in
    let count : length c.goes.new.asked.messages.items ≡ length c.args.asked.now.messages.items = c.goes.ensures.others.count in
    let n = each_has c.goes.new.asked (c.goes.ensures.order c.requires.order) c.args.at (omega (arith, count, c.requires.there)) in
    short_more (view_of c.args.seat.now) (view_of c.deal_in_turn.new.seat) now fresh c.args.state.now c.deal_in_turn.new.state
    c.goes.new.asked c.args.at n.0 (option_map carry_of c.args.carried.now) c.args.dealt.now c.deal_in_turn.new.dealt (Err c.in-Err.why)
    (c.in-Err.ensures.deals n.0 n.1) short

pub returns-in-Ok-clause-setups : goal.returns-in-Ok-clause-setups
returns-in-Ok-clause-setups g c =
    ap (λ (q : CheckedFrame). holds_setup q.messages.items) c.deal_in_turn.ensures.frame ∙ c.goes.ensures.setups

pub returns-in-Err-clause-setups : goal.returns-in-Err-clause-setups
returns-in-Err-clause-setups g c =
    ap (λ (q : CheckedFrame). holds_setup q.messages.items) c.deal_in_turn.ensures.frame ∙ c.goes.ensures.setups
