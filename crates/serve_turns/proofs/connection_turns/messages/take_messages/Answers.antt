use Rattle.std.proofs.Common.{◌≡◌, ◌+◌, ◌≤◌, ◌∙◌, ◌++◌, [], List, length, vec_capacity, Ok, Err, sym, ap, refl, append-nil, append_assoc}
use Rattle.std.proofs.Common.{Bool, option_map, subst, arith}
use Rattle.conn_core.specs.frame_messages.Checking.{holds_setup}
use Rattle.conn_core.specs.related.Carrying.{carry_of}
use Rattle.conn_core.proofs.frame_events.Ending.{shorts_none}
use Rattle.conn_core.proofs.frame_events.Lists.{same_long}
use Rattle.serve_turns.specs.shared_book.Words.{view_of}
use Rattle.serve_turns.specs.connection_turns.Frames.{AreOfSuch}
use Rattle.serve_turns.specs.event_book.History.{Placed}
use Rattle.serve_turns.proofs.connection_turns.Chains.{meet_back, meet_front, once_both, such_both}
use Rattle.serve_turns.proofs.connection_turns.Wholes.{at_conn, first_of, messages_done, messages_err}
use Rattle.serve_turns.proofs.connection_turns.messages.take_messages.Goals as goal

pub loop-at-init : goal.loop-at-init
loop-at-init g c =
    let now = c.args.moment.now.time in
    let fresh = c.args.moment.now.fresh in
    let items = c.args.dealt.now.replies.items.items in
    let none : length items ≡ 0 = ap (λ l. length l) c.requires.none.0 in (
      (refl, refl, refl),
      c.requires.order,
      c.requires.denied,
      refl,
      omega (arith, none),
      c.requires.room,
      shorts_none items c.requires.none.0,
      refl,
      refl,
      refl,
      refl,
      (
        [],
        sym (append-nil (view_of c.args.seat.now).own),
        tt,
        tt,
        λ z h server logons f F all conn frame alone.
            first_of z h c.args.state.now.conn.id now fresh server logons f c.args.state.now.setups F.messages
            c.args.asked.now c.args.dealt.now
            c.requires.none.0 c.requires.none.1 frame.messages,
      ),
    )

pub loop-at-preserved : goal.loop-at-preserved
loop-at-preserved g c =
    let now = c.args.moment.now.time in
    let fresh = c.args.moment.now.fresh in
    let inv = c.loop-at.invariant in
    let was : length c.loop-at.dealt.replies.items.items ≤ c.loop-at.at = inv.4 in
    let one = c.take_message.ensures.room.1 in
    let room : length c.args.asked.now.messages.items ≤ vec_capacity c.loop-at.dealt.replies.items = inv.5 in
    let more = c.take_message.ensures.room.0 in
    let so = inv.11 in
    let takes = c.in-Ok.ensures.takes in (
      (c.take_message.ensures.same.0 ∙ inv.0.0, c.take_message.ensures.same.1 ∙ inv.0.1, c.take_message.ensures.same.2 ∙ inv.0.2),
      c.take_message.ensures.order,
      c.take_message.ensures.denied,
      c.take_message.ensures.kept.0 ∙ inv.3,
      omega (arith, was, one),
      omega (arith, room, more),
      c.take_message.ensures.short inv.6,
      c.take_message.ensures.kept.1 ∙ inv.7,
      c.take_message.ensures.kept.2 ∙ inv.8,
      takes.conn ∙ inv.9,
      c.take_message.ensures.setups ∙ inv.10,
      (
        so.0 ++ takes.turns,
        takes.own ∙ (ap (λ (l : List Placed). l ++ takes.turns) so.1 ∙ append_assoc (view_of c.args.seat.now).own so.0 takes.turns),
        once_both now fresh so.0 takes.turns so.2 takes.at_once,
        such_both (holds_setup c.args.asked.now.messages.items) so.0 takes.turns so.3
            (subst (λ (b : Bool). AreOfSuch b takes.turns) inv.10 takes.of_frame),
        λ z h server logons f F all conn frame alone.
            let far = so.4 z h server logons f F (meet_front z h so.0 takes.turns all) conn frame alone in
            let long = inv.3 ∙ same_long c.args.asked.now.bytes.items c.args.asked.now.messages.items F.messages frame.messages in
            at_conn z h c.loop-at.state.conn c.args.state.now.conn inv.9 now fresh server logons f c.args.state.now.setups
            F.messages c.loop-at.at so.0
            takes.turns c.loop-at.state.setups c.take_message.new.state.setups c.loop-at.asked c.take_message.new.asked c.loop-at.dealt
            c.take_message.new.dealt (option_map carry_of c.loop-at.carried) (Ok c.in-Ok.behind) conn far
            (λ shows s. takes.steps z h server logons f F.messages c.args.state.now.setups so.0 (meet_back z h so.0 takes.turns all)
            shows alone long s),
      ),
    )

pub returns-in-Err-clause-takes : goal.returns-in-Err-clause-takes
returns-in-Err-clause-takes g c =
    let now = c.args.moment.now.time in
    let fresh = c.args.moment.now.fresh in
    let inv = c.loop-at.invariant in
    let so = inv.11 in
    let takes = c.in-Err.ensures.takes in
    record {
      turns = so.0 ++ takes.turns;
      own = takes.own ∙ (ap (λ (l : List Placed). l ++ takes.turns) so.1 ∙ append_assoc (view_of c.args.seat.now).own so.0 takes.turns);
      at_once = once_both now fresh so.0 takes.turns so.2 takes.at_once;
      of_frame = such_both (holds_setup c.args.asked.now.messages.items) so.0 takes.turns so.3
          (subst (λ (b : Bool). AreOfSuch b takes.turns) inv.10 takes.of_frame);
      conn = takes.conn ∙ inv.9;
      kept = (c.take_message.ensures.kept.1 ∙ inv.7, c.take_message.ensures.kept.2 ∙ inv.8);
      ends = λ z h server logons f F all conn frame alone.
          let far = so.4 z h server logons f F (meet_front z h so.0 takes.turns all) conn frame alone in
          let long = inv.3 ∙ same_long c.args.asked.now.bytes.items c.args.asked.now.messages.items F.messages frame.messages in
          messages_err z h c.args.state.now.conn.id now fresh server logons f c.args.state.now F.messages (c.loop-at.at + 1)
          (so.0 ++ takes.turns)
          c.take_message.new.state c.take_message.new.asked c.take_message.new.dealt c.in-Err.why
          (at_conn z h c.loop-at.state.conn c.args.state.now.conn inv.9 now fresh server logons f c.args.state.now.setups
          F.messages c.loop-at.at so.0
          takes.turns c.loop-at.state.setups c.take_message.new.state.setups c.loop-at.asked c.take_message.new.asked c.loop-at.dealt
          c.take_message.new.dealt (option_map carry_of c.loop-at.carried) (Err c.in-Err.why) conn far
          (λ shows s. takes.steps z h server logons f F.messages c.args.state.now.setups so.0 (meet_back z h so.0 takes.turns all) shows
          alone long s));
    }

pub returns-clause-takes : goal.returns-clause-takes
returns-clause-takes g c =
    let now = c.args.moment.now.time in
    let fresh = c.args.moment.now.fresh in
    let inv = c.loop-at.invariant in
    let so = inv.11 in
    record {
      turns = so.0;
      own = so.1;
      at_once = so.2;
      of_frame = so.3;
      conn = inv.9;
      kept = (inv.7, inv.8);
      ends = λ z h server logons f F all conn frame alone.
          let count : length c.args.asked.now.messages.items ≡ length F.messages =
          same_long c.args.asked.now.bytes.items c.args.asked.now.messages.items F.messages frame.messages in
          let past : length F.messages ≤ c.loop-at.at =
          omega (arith, count, c.loop-at-test.false, c.len-at-end.ensures, c.args.asked.now.messages.ok.0) in
          messages_done z h c.args.state.now.conn.id now fresh server logons f c.args.state.now F.messages c.loop-at.at
          so.0 c.loop-at.state
          c.loop-at.asked c.loop-at.dealt (option_map carry_of c.loop-at.carried) (inv.3 ∙ count) past (so.4 z h server logons f F all
          conn frame alone);
    }
