use Rattle.world_steps.proofs.opening.beginning.fresh_at.Goals as goal

pub returns : goal.returns
returns c = record { salt = c.draw.ensures; challenge = c.draw_8.ensures; key = c.draw_16.ensures }
