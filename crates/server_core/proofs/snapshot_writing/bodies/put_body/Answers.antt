use Rattle.server_core.proofs.snapshot_writing.Lemmas.{on_done, put_answers}
use Rattle.server_core.proofs.snapshot_writing.bodies.put_body.Goals as goal

pub returns-clause-put : goal.returns-clause-put
returns-clause-put g c = λ told bodies h. on_done c.put-step.result c.outcome.result _ c.outcome.ensures (c.put-step.ensures.put told bodies h)

pub returns-clause-goes : goal.returns-clause-goes
returns-clause-goes g c = record {
  quiet = c.put-step.ensures.quiet;
  cause = put_answers g.D.Disk.faults _ _ _ _ _ c.put-step.result c.outcome.result c.outcome.ensures c.put-step.ensures.cause;
}
