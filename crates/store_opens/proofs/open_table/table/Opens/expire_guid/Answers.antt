use Rattle.store_opens.proofs.open_table.StoodLemmas.{fewer}
use Rattle.store_opens.proofs.open_table.table.Opens.expire_guid.Goals as goal

pub returns-in-Some-clause-shown : goal.returns-in-Some-clause-shown
returns-in-Some-clause-shown c = λ s h few. rw c.in-Some.is (c.put_expired.ensures.shown s h (fewer s.expired_count few))
