use Rattle.std.proofs.Common.{Ok, Err, refl, ap, subst, ◌∙◌}
use Rattle.serve_turns.specs.shared_book.Words.{view_of}
use Rattle.serve_turns.specs.connection_turns.Passing.{FrameTaken}
use Rattle.serve_turns.proofs.connection_turns.Linking.{all_taken, begins, put_off, put_on, unanswered, unread}
use Rattle.serve_turns.proofs.connection_turns.Watching.{is_due, on_same, stops_same, way_on}
use Rattle.serve_turns.proofs.connection_turns.frames.take_frames.Goals as goal

pub loop-init : goal.loop-init
loop-init g c =
    record {
      same = (refl, refl, refl);
      on = begins g.L.Link.told g.L.Link.given g.L.Link.left g.L.Link.written g.L.Link.faults g.L.Link.ended _ _ _ _;
    }

pub loop-preserved : goal.loop-preserved
loop-preserved g c =
    record {
      same = (
        c.look_on.ensures.same.0 ∙ (c.take_frame.ensures.same.0 ∙ c.loop.invariant.same.0),
        c.look_on.ensures.same.1 ∙ (c.take_frame.ensures.same.1 ∙ c.loop.invariant.same.1),
        c.look_on.ensures.same.2 ∙ (c.take_frame.ensures.same.2 ∙ c.loop.invariant.same.2),
      );
      on = on_same g.L.Link.told g.L.Link.given g.L.Link.left g.L.Link.written g.L.Link.faults _ (view_of c.take_frame.new.seat)
          (view_of c.look_on.new.seat) _ _ _ _ _ _
          (put_on g.L.Link.told g.L.Link.given g.L.Link.left g.L.Link.written g.L.Link.faults g.L.Link.ended _ _ _ _ _ _ _ c.loop.stream
          c.next_frame.new.stream c.in-Ok-Some.frame _ c.loop.link c.put_answer.new.link c.in-Ok.answer
          c.as_slice-text.result.now c.next_frame.result c.put_answer.result c.in_default.field-0
          (c.in-Ok-Some.is ∙ ap Ok c.in-Ok-Some.field-0-is) c.next_frame.ensures c.loop.invariant.on
          (subst (λ b. FrameTaken (view_of c.loop.seat) c.loop.state b (Ok c.in-Ok.answer) c.take_frame.new.state
          (view_of c.take_frame.new.seat)) c.into_vec.ensures c.in-Ok.ensures.takes)
          c.as_slice-text.ensures.value c.in_default.is c.put_answer.ensures)
          c.look_on.ensures.own;
    }

pub returns-in-Err-put_answer-clause-frames : goal.returns-in-Err-put_answer-clause-frames
returns-in-Err-put_answer-clause-frames g c =
    stops_same g.L.Link.told g.L.Link.given g.L.Link.left g.L.Link.written g.L.Link.faults g.L.Link.ended _ (view_of c.take_frame.new.seat)
    (view_of c.look_on.new.seat) _ _ _ _ _
    (put_off g.L.Link.told g.L.Link.given g.L.Link.left g.L.Link.written g.L.Link.faults g.L.Link.ended _ _ _ _ _ _ _ c.loop.stream
    c.next_frame.new.stream c.in-Ok-Some.frame _ c.loop.link c.put_answer.new.link c.in-Ok.answer
    c.as_slice-text.result.now c.in-Err-put_answer.why c.next_frame.result c.put_answer.result
    (c.in-Ok-Some.is ∙ ap Ok c.in-Ok-Some.field-0-is) c.next_frame.ensures c.loop.invariant.on
    (subst (λ b. FrameTaken (view_of c.loop.seat) c.loop.state b (Ok c.in-Ok.answer) c.take_frame.new.state
    (view_of c.take_frame.new.seat)) c.into_vec.ensures c.in-Ok.ensures.takes)
    c.as_slice-text.ensures.value c.in-Err-put_answer.is c.put_answer.ensures)
    c.look_on.ensures.own

pub returns-in-Ok-None-clause-frames : goal.returns-in-Ok-None-clause-frames
returns-in-Ok-None-clause-frames g c =
    all_taken g.L.Link.told g.L.Link.given g.L.Link.left g.L.Link.written g.L.Link.faults g.L.Link.ended _ _ _ _ _ c.loop.stream
    c.next_frame.new.stream _ c.loop.link c.next_frame.result (c.in-Ok-None.is ∙ ap Ok c.in-Ok-None.field-0-is)
    c.next_frame.ensures c.loop.invariant.on

pub returns-in-Err-clause-frames : goal.returns-in-Err-clause-frames
returns-in-Err-clause-frames g c =
    unread g.L.Link.told g.L.Link.given g.L.Link.left g.L.Link.written g.L.Link.faults g.L.Link.ended _ _ _ _ _ c.loop.stream
    c.next_frame.new.stream _ c.loop.link c.in-Err.why c.next_frame.result c.in-Err.is c.next_frame.ensures c.loop.invariant.on

pub returns-in-Err-take_frame-clause-frames : goal.returns-in-Err-take_frame-clause-frames
returns-in-Err-take_frame-clause-frames g c =
    unanswered g.L.Link.told g.L.Link.given g.L.Link.left g.L.Link.written g.L.Link.faults g.L.Link.ended _ _ _ _ _ _ _ c.loop.stream
    c.next_frame.new.stream c.in-Ok-Some.frame _ c.loop.link c.in-Err-take_frame.why c.next_frame.result
    (c.in-Ok-Some.is ∙ ap Ok c.in-Ok-Some.field-0-is) c.next_frame.ensures c.loop.invariant.on
    (subst (λ b. FrameTaken (view_of c.loop.seat) c.loop.state b (Err c.in-Err-take_frame.why) c.take_frame.new.state
    (view_of c.take_frame.new.seat)) c.into_vec.ensures c.in-Err-take_frame.ensures.takes)

pub look_on-requires-clause-due : goal.look_on-requires-clause-due
look_on-requires-clause-due g c = λ history.
    let begun = c.args.begun.now in
    let way = way_on g.L.Link.told g.L.Link.given g.L.Link.left g.L.Link.written g.L.Link.faults begun.guid begun.number
    (view_of begun.seat.value)
    (view_of c.args.seat.now) (view_of c.loop.seat) c.args.state.now c.loop.state c.args.stream.now c.loop.stream begun.link.value
    c.args.link.now c.loop.link c.requires.way c.loop.invariant.on in
    is_due g.L.Link.told g.L.Link.given g.L.Link.left g.L.Link.written g.S.Serve.shows g.S.Serve.stopped g.S.Serve.faults begun.guid
    begun.number
    (view_of begun.seat.value) (view_of c.loop.seat) (view_of c.take_frame.new.seat) c.loop.state c.take_frame.new.state
    c.loop.stream c.next_frame.new.stream c.in-Ok-Some.frame c.in-Ok.answer c.as_slice-text.result.now begun.link.value
    c.loop.link c.next_frame.result way (c.in-Ok-Some.is ∙ ap Ok c.in-Ok-Some.field-0-is) c.next_frame.ensures
    (subst (λ b. FrameTaken (view_of c.loop.seat) c.loop.state b (Ok c.in-Ok.answer) c.take_frame.new.state
    (view_of c.take_frame.new.seat)) c.into_vec.ensures c.in-Ok.ensures.takes)
    c.as_slice-text.ensures.value c.take_frame.new.seat.ends history
