use Rattle.std.proofs.Common.{◌≡◌, [], ◌∷◌, ◌++◌, arith}
use Rattle.std.proofs.lemmas.Grind.{common_steps}
use Rattle.journal_bytes.proofs.record_bodies.Elements.{element, elements_go_on}
use Rattle.journal_bytes.proofs.record_bodies.held.elements_of.Goals as goal

pub loop-found-preserved : goal.loop-found-preserved
loop-found-preserved c =
    let pushed : c.push.new.self.items ≡ c.loop-found.elements.items ++ element c.in-Some.found ∷ [] = grind (arith, common_steps) in
    rw (c.behind-rest.ensures, pushed) (elements_go_on c.args.bytes.now c.loop-found.rest.now c.loop-found.elements.items
    c.in-Some.found c.in-Some.ensures c.loop-found.invariant)
