use Rattle.store_opens.proofs.open_index.IndexLemmas.{other_pair}
use Rattle.store_opens.proofs.open_index.index.drop_pending.Goals as goal

pub returns-clause-others : goal.returns-clause-others
returns-clause-others c = λ o d ne. c.remove.ensures.updates.2 (d, o) (other_pair c.args.deadline c.args.id d o ne)
