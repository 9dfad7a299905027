use Rattle.world_steps.proofs.opening.opening.open_free.Goals as goal

pub returns-in-Some : goal.returns-in-Some
returns-in-Some c = c.open_drawn.ensures

pub returns-in-None : goal.returns-in-None
returns-in-None c = λ due z w h. tt
