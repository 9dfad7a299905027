use Rattle.law_wire.proofs.credits.CallLaws.{each_id_once}
use Rattle.law_wire.proofs.credits.laws.each_id_once_law.Goals as goal

pub returns : goal.returns
returns c = each_id_once
