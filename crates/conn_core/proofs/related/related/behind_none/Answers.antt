use Rattle.conn_core.proofs.related.related.behind_none.Goals as goal

pub returns : goal.returns
returns c = λ k x. c.carried_past.ensures k x
