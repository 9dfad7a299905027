use Rattle.law_hostile.proofs.puts.Growing.{put_stays, signed_stays, watches_run}
use Rattle.law_hostile.proofs.puts.put_stays_law.Goals as goal

pub returns-clause-puts : goal.returns-clause-puts
returns-clause-puts c = put_stays

pub returns-clause-signed : goal.returns-clause-signed
returns-clause-signed c = signed_stays

pub returns-clause-watches : goal.returns-clause-watches
returns-clause-watches c = watches_run
