use Rattle.std.proofs.Common.{length}
use Rattle.serve_turns.proofs.link_threads.links.in_scope.Goals as goal

pub returns-clause-ends : goal.returns-clause-ends
returns-clause-ends g c = λ is. c.join_all.ensures.ends c.args.count (c.accept_each-halt.ensures.covered is)

pub returns-clause-served : goal.returns-clause-served
returns-clause-served g c =
    let s = c.accept_each-halt.ensures.served in (
      s.0,
      s.1,
      c.join_all.ensures.served (g.N.Net.accepted c.args.net) (length (g.N.Net.sent c.args.net))
          (g.N.Net.sent c.accept_each-halt.new.net) s.0 s.2,
    )
