use Rattle.law_client.proofs.runs.Worlds.{always, kept_behind}
use Rattle.law_client.proofs.runs.run_kept_law.Goals as goal

pub returns : goal.returns
returns c = record { next = kept_behind; each = always }
