use Rattle.std.proofs.Common.{[], None, refl, sym, subst, append-nil, arith}
use Rattle.conn_core.specs.Shown.{ShowsEnd}
use Rattle.conn_core.specs.declared.conn.Conn.{Conn}
use Rattle.conn_core.specs.frame_messages.Checking.{holds_setup}
use Rattle.conn_core.proofs.frame_messages.Places.{each_has}
use Rattle.serve_turns.specs.shared_book.Words.{view_of}
use Rattle.serve_turns.proofs.connection_turns.Drawn.{told_drawn}
use Rattle.serve_turns.proofs.connection_turns.Framing.{checked_so, first_found, frame_comes, frame_fails, frame_lacks, frame_stops}
use Rattle.serve_turns.proofs.connection_turns.frames.take_frame.Goals as goal

pub take_messages-requires-clause-order : goal.take_messages-requires-clause-order
take_messages-requires-clause-order g c = c.in-Ok.ensures.order

pub take_messages-requires-clause-denied : goal.take_messages-requires-clause-denied
take_messages-requires-clause-denied g c = c.in-Ok.ensures.denied

pub take_messages-requires-clause-none : goal.take_messages-requires-clause-none
take_messages-requires-clause-none g c = c.in-Ok-dealt_for.ensures.none

pub take_messages-requires-clause-room : goal.take_messages-requires-clause-room
take_messages-requires-clause-room g c = (let few = c.in-Ok-dealt_for.ensures.room in let long = c.len.ensures in
    let count = c.in-Ok.asked.messages.ok.0 in omega (arith, few, long, count))

pub finish-requires-clause-messages : goal.finish-requires-clause-messages
finish-requires-clause-messages g c = each_has c.take_messages.new.asked c.take_messages.ensures.order

pub finish-requires-clause-short : goal.finish-requires-clause-short
finish-requires-clause-short g c = c.take_messages.ensures.short

pub returns-in-Err-clause-takes : goal.returns-in-Err-clause-takes
returns-in-Err-clause-takes g c = record {
  turns = [];
  own = sym (append-nil (view_of c.args.seat.now).own);
  comes = λ z h f all shows bound.
      frame_fails z h c.args.state.now.conn.id f c.args.state.now.setups c.args.frame.items c.in-Err.why
      (c.in-Err.ensures.checks c.args.state.now.conn.id z.guid f shows);
}

pub returns-in-Err-dealt_for-clause-takes : goal.returns-in-Err-dealt_for-clause-takes
returns-in-Err-dealt_for-clause-takes g c = record {
  turns = [];
  own = sym (append-nil (view_of c.args.seat.now).own);
  comes = λ z h f all shows bound. frame_lacks z h c.args.state.now.conn.id f c.args.state.now.setups c.args.frame.items;
}

pub returns-clause-takes : goal.returns-clause-takes
returns-clause-takes g c =
    let takes = c.in-Err-take_messages.ensures.takes in
    let k = c.args.state.now.conn.id in
    record {
      turns = takes.turns;
      own = takes.own;
      comes = λ z h f all shows bound.
          let q = checked_so z k c.now-now.result f c.args.frame.items c.check_own.new.conn c.in-Ok.asked shows.heard bound
          (c.in-Ok.ensures.checks k z.guid f shows) in
          let st = first_found h takes.turns in
          frame_stops z h k f c.args.state.now.setups c.args.frame.items takes.turns q.F q.heard c.now-now.result c.fresh_for-fresh.result
          st.stand.server st.stand.logons takes.at_once st.is c.check_own.new.conn.id
          (record c.args.state.now { conn = c.check_own.new.conn; news = None })
          c.take_messages.new.state c.take_messages.new.asked c.take_messages.new.dealt c.in-Err-take_messages.why q.shows.number refl
          (takes.ends z h st.stand.server st.stand.logons q.F.server_end q.F all
          (subst (λ i. ShowsEnd i z.guid c.check_own.new.conn q.F.server_end) (sym q.shows.number) q.shows) q.frames q.alone);
    }

pub returns-in-Ok-take_messages-clause-takes : goal.returns-in-Ok-take_messages-clause-takes
returns-in-Ok-take_messages-clause-takes g c =
    let takes = c.in-Ok-take_messages.ensures.takes in
    let k = c.args.state.now.conn.id in
    record {
      turns = takes.turns;
      own = takes.own;
      comes = λ z h f all shows bound.
          let q = checked_so z k c.now-now.result f c.args.frame.items c.check_own.new.conn c.in-Ok.asked shows.heard bound
          (c.in-Ok.ensures.checks k z.guid f shows) in
          let st = first_found h takes.turns in
          frame_comes z h k f c.args.state.now.setups c.args.frame.items takes.turns q.F q.heard c.now-now.result c.fresh_for-fresh.result
          st.stand.server st.stand.logons takes.at_once st.is c.check_own.new.conn.id
          (record c.args.state.now { conn = c.check_own.new.conn; news = None })
          c.take_messages.new.state c.finish.new.state c.in-Ok.asked c.take_messages.new.asked c.take_messages.new.dealt c.finish.result
          q.shows.number refl c.finish.ensures.setups q.frames.sealed takes.kept q.time q.seals q.greets q.asked q.bound
          (subst (λ (o : Conn). ShowsEnd k z.guid o q.F.server_end) (sym takes.conn) q.shows)
          (takes.ends z h st.stand.server st.stand.logons q.F.server_end q.F all
          (subst (λ i. ShowsEnd i z.guid c.check_own.new.conn q.F.server_end) (sym q.shows.number) q.shows) q.frames q.alone)
          (λ s L cs ss w end answers. c.finish.ensures.replies z s L q.F.server_end cs ss w end answers);
    }

pub returns-in-Err-clause-draws : goal.returns-in-Err-clause-draws
returns-in-Err-clause-draws g c = record {
  turns = [];
  own = sym (append-nil (view_of c.args.seat.now).own);
  now = 0;
  fresh = [];
  at_once = tt;
  drawn = tt;
}

pub returns-in-Err-dealt_for-clause-draws : goal.returns-in-Err-dealt_for-clause-draws
returns-in-Err-dealt_for-clause-draws g c = record {
  turns = [];
  own = sym (append-nil (view_of c.args.seat.now).own);
  now = 0;
  fresh = [];
  at_once = tt;
  drawn = tt;
}

pub returns-clause-draws : goal.returns-clause-draws
returns-clause-draws g c =
    let takes = c.in-Err-take_messages.ensures.takes in
    record {
      turns = takes.turns;
      own = takes.own;
      now = c.now-now.result;
      fresh = c.fresh_for-fresh.result;
      at_once = takes.at_once;
      drawn = told_drawn g.R.Rng.stream (holds_setup c.in-Ok.asked.messages.items) c.now-now.result c.fresh_for-fresh.result takes.turns
          c.fresh_for-fresh.ensures takes.at_once takes.of_frame;
    }

pub returns-in-Ok-take_messages-clause-draws : goal.returns-in-Ok-take_messages-clause-draws
returns-in-Ok-take_messages-clause-draws g c =
    let takes = c.in-Ok-take_messages.ensures.takes in
    record {
      turns = takes.turns;
      own = takes.own;
      now = c.now-now.result;
      fresh = c.fresh_for-fresh.result;
      at_once = takes.at_once;
      drawn = told_drawn g.R.Rng.stream (holds_setup c.in-Ok.asked.messages.items) c.now-now.result c.fresh_for-fresh.result takes.turns
          c.fresh_for-fresh.ensures takes.at_once takes.of_frame;
    }
