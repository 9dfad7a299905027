use Rattle.world_steps.proofs.serving.hearing.serve_book.Goals as goal

pub returns-in-Some : goal.returns-in-Some
returns-in-Some c = rw c.in-Some.is c.serve_frame.ensures
