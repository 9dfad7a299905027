use Rattle.std.proofs.Common.{[], refl, sym, ◌∙◌}
use Rattle.serve_turns.specs.shared_book.Words.{view_of}
use Rattle.serve_turns.proofs.connection_turns.Linking.{all_off, all_on, begins_empty, fed_last, fed_on, lacked}
use Rattle.serve_turns.proofs.connection_turns.Watching.{way_on}
use Rattle.serve_turns.proofs.connection_turns.frames.read_frames.Goals as goal

pub returns-in-Err-clause-frames : goal.returns-in-Err-clause-frames
returns-in-Err-clause-frames g c =
    lacked g.L.Link.told g.L.Link.given g.L.Link.left g.L.Link.written g.L.Link.faults g.L.Link.ended _ _ _

pub loop-init : goal.loop-init
loop-init g c =
    let begun = begins_empty g.L.Link.told g.L.Link.given g.L.Link.left g.L.Link.written g.L.Link.faults g.L.Link.ended
    (view_of c.args.seat.now) c.args.state.now c.new-stream.result c.args.link.now c.new-stream.ensures in
    record { same = (refl, refl, refl); on = begun.0; waits = begun.1; room = c.in-Ok.ensures }

pub returns-in-Err-feed_from-clause-frames : goal.returns-in-Err-feed_from-clause-frames
returns-in-Err-feed_from-clause-frames g c =
    fed_last g.L.Link.told g.L.Link.given g.L.Link.left g.L.Link.written g.L.Link.faults g.L.Link.ended _ _ _ _ _ c.loop.stream
    c.feed_from.new.stream _ c.loop.link c.feed_from.new.link c.in-Err-feed_from.why c.feed_from.result c.in-Err-feed_from.is
    c.feed_from.ensures c.loop.invariant.on c.loop.invariant.waits

pub returns-then-is_some-clause-frames : goal.returns-then-is_some-clause-frames
returns-then-is_some-clause-frames g c =
    let fed = fed_on g.L.Link.told g.L.Link.given g.L.Link.left g.L.Link.written g.L.Link.faults g.L.Link.ended _ _ _ _ _ c.loop.stream
    c.feed_from.new.stream _ c.loop.link c.feed_from.new.link c.feed_from.result c.in_default.field-0 c.in_default.is
    c.feed_from.ensures c.loop.invariant.on in
    all_off g.L.Link.told g.L.Link.given g.L.Link.left g.L.Link.written g.L.Link.faults g.L.Link.ended _ _
    (view_of c.take_frames-why.new.seat)
    _ _ c.take_frames-why.new.state _ _ c.take_frames-why.new.stream _ c.feed_from.new.link c.take_frames-why.new.link
    c.take_frames-why.result (sym c.is_some.ensures ∙ c.if-is_some.true) fed c.take_frames-why.ensures.frames

pub loop-preserved : goal.loop-preserved
loop-preserved g c =
    let fed = fed_on g.L.Link.told g.L.Link.given g.L.Link.left g.L.Link.written g.L.Link.faults g.L.Link.ended _ _ _ _ _ c.loop.stream
    c.feed_from.new.stream _ c.loop.link c.feed_from.new.link c.feed_from.result c.in_default.field-0 c.in_default.is
    c.feed_from.ensures c.loop.invariant.on in
    let all = all_on g.L.Link.told g.L.Link.given g.L.Link.left g.L.Link.written g.L.Link.faults g.L.Link.ended _ _
    (view_of c.take_frames-why.new.seat) _ _ c.take_frames-why.new.state _ _ c.take_frames-why.new.stream _ c.feed_from.new.link
    c.take_frames-why.new.link c.take_frames-why.result (sym c.is_some.ensures ∙ c.if-is_some.false) fed
    c.take_frames-why.ensures.frames in
    record {
      same = (
        c.take_frames-why.ensures.same.0 ∙ c.loop.invariant.same.0,
        c.take_frames-why.ensures.same.1 ∙ c.loop.invariant.same.1,
        c.take_frames-why.ensures.same.2 ∙ c.loop.invariant.same.2,
      );
      on = all.0;
      waits = all.1;
      room = c.loop.invariant.room;
    }

pub take_frames-why-requires-clause-way : goal.take_frames-why-requires-clause-way
take_frames-why-requires-clause-way g c =
    let begun = c.args.begun.now in
    let fed = fed_on g.L.Link.told g.L.Link.given g.L.Link.left g.L.Link.written g.L.Link.faults g.L.Link.ended _ _ _ _ _ c.loop.stream
    c.feed_from.new.stream _ c.loop.link c.feed_from.new.link c.feed_from.result c.in_default.field-0 c.in_default.is
    c.feed_from.ensures c.loop.invariant.on in
    way_on g.L.Link.told g.L.Link.given g.L.Link.left g.L.Link.written g.L.Link.faults begun.guid begun.number (view_of begun.seat.value)
    (view_of c.args.seat.now) (view_of c.loop.seat) c.args.state.now c.loop.state [] c.feed_from.new.stream begun.link.value
    c.args.link.now c.feed_from.new.link c.requires.way fed
