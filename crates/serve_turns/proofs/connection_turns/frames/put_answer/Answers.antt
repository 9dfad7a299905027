use Rattle.std.proofs.Common.{ℕ, ◌∙◌, subst}
use Rattle.base_outside.specs.streams.Faults.{Rose}
use Rattle.serve_turns.proofs.connection_turns.Calls.{front_behind, put_fails, written_behind}
use Rattle.serve_turns.proofs.connection_turns.frames.put_answer.Goals as goal

pub returns-in-Ok : goal.returns-in-Ok
returns-in-Ok g c = (
  written_behind g.L.Link.told g.L.Link.given g.L.Link.left g.L.Link.written c.args.link.now c.tell.new.link c.write_all.new.link
      c.args.answer.now
      (λ t. ((c.tell.ensures.bytes t).0, (c.tell.ensures.bytes t).1)) (λ t. (c.tell.ensures.bytes t).2) c.in-Ok.ensures.written,
  c.in-Ok.ensures.kept ∙ c.tell.ensures.calm,
)

pub returns-in-Err : goal.returns-in-Err
returns-in-Err g c =
    put_fails g.L.Link.told g.L.Link.given g.L.Link.left g.L.Link.written g.L.Link.faults c.args.link.now c.write_all.new.link
    c.args.answer.now
    c.fault_count.result c.fault_count.ensures
    (subst (λ (n : ℕ). Rose n (g.L.Link.faults c.write_all.new.link)) c.tell.ensures.calm c.in-Err.ensures.cause)
    (front_behind g.L.Link.told g.L.Link.given g.L.Link.left g.L.Link.written c.args.link.now c.tell.new.link c.write_all.new.link
    c.args.answer.now
    (λ t. ((c.tell.ensures.bytes t).0, (c.tell.ensures.bytes t).1)) (λ t. (c.tell.ensures.bytes t).2) c.in-Err.ensures.front)
