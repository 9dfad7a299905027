use Rattle.std.proofs.Common.{◌≡◌, [], ◌∷◌, ◌++◌, arith}
use Rattle.std.proofs.lemmas.Grind.{common_steps}
use Rattle.wire_commands.proofs.reading.Elements.{element, elements_go_on}
use Rattle.wire_commands.proofs.reading.lock.elements_in.Goals as goal

pub loop-found-preserved : goal.loop-found-preserved
loop-found-preserved c =
    let pushed : c.push.new.self.items ≡ c.loop-found.elements.items ++ element c.in-Some.found ∷ [] = grind (arith, common_steps) in
    rw (c.behind-rest.ensures, pushed) (elements_go_on c.args.locks.now c.loop-found.rest.now c.loop-found.elements.items
    c.in-Some.found c.in-Some.ensures c.loop-found.invariant)
