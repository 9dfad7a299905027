use Rattle.law_hostile.proofs.ids.Rising.{own_ids_rise}
use Rattle.law_hostile.proofs.ids.own_ids_rise_law.Goals as goal

pub returns : goal.returns
returns c = record { rise = own_ids_rise }
