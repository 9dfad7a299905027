use Rattle.std.proofs.Common.{ap, ◌∙◌, length}
use Rattle.std.proofs.lemmas.List.{length-replicate}
use Rattle.serve_command.proofs.Blank.{blank_served}
use Rattle.serve_command.proofs.Still.{opens_first}
use Rattle.serve_command.specs.Serving.{serves_link}
use Rattle.serve_turns.specs.link_serving.Passage.{IsLinkAt, IsOfLink, ServesOver}
use Rattle.serve_command.proofs.command.opened.Goals as goal

pub returns-clause-opens : goal.returns-clause-opens
returns-clause-opens g c = opens_first c.args.server c.first_book-first.result _ c.in_ok-pair.ensures.1 c.first_book-first.ensures

pub returns-clause-served : goal.returns-clause-served
returns-clause-served g c = record {
  any = λ before others sent.
      blank_served (ServesOver
      (IsOfLink g.N.L.Link.told g.N.L.Link.given g.N.L.Link.left g.N.L.Link.written g.N.L.Link.faults g.N.L.Link.ended g.N.L.Link.number
      before others sent)
      serves_link) (IsLinkAt g.N.L.Link.told g.N.L.Link.number g.N.L.Link.left before others sent) _ _ _ _ c.in_ok-ends.ensures
      c.in_ok-pair.ensures.1;
}

pub returns-clause-room : goal.returns-clause-room
returns-clause-room g c = ap length c.in_ok-ends.ensures ∙ length-replicate _ _
