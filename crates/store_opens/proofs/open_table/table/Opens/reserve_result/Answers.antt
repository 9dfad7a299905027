use Rattle.std.proofs.Common.{refl}
use Rattle.store_opens.proofs.open_table.Same.{same_sessions}
use Rattle.store_opens.proofs.open_table.table.Opens.reserve_result.Goals as goal

pub returns-clause-same : goal.returns-clause-same
returns-clause-same c = λ s h. same_sessions c.args.self.now (record c.args.self.now {
  sessions = c.reserve_guid.new.sessions;
}) refl c.reserve_guid.ensures.grows s h
