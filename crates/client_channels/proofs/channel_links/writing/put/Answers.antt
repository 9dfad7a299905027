use Rattle.std.proofs.Common.{List, ℕ, [], subst, ◌∙◌}
use Rattle.serve_turns.specs.link_serving.Passage.{Passed}
use Rattle.client_channels.proofs.channel_links.Written.{lost_part}
use Rattle.client_channels.proofs.channel_links.writing.put.Goals as goal

pub returns-in-Ok : goal.returns-in-Ok
returns-in-Ok g c = λ message is. (
  subst (λ (x : List ℕ). Passed g.L.Link.told g.L.Link.given g.L.Link.left g.L.Link.written c.args.link.now c.write_all.new.link [] x)
      (c.as_slice.ensures ∙ is) c.in-Ok.ensures.written,
  c.in-Ok.ensures.kept,
)

pub returns-in-Err : goal.returns-in-Err
returns-in-Err g c = λ message is.
    lost_part g.L.Link.told g.L.Link.given g.L.Link.left g.L.Link.written g.L.Link.faults c.args.link.now c.write_all.new.link
    c.as_slice.result.now message
    (c.as_slice.ensures ∙ is) c.in-Err.ensures.front c.in-Err.ensures.cause
