use Rattle.law_client.proofs.choice.Picking.{first_goes, none_goes}
use Rattle.law_client.proofs.choice.choice_law.Goals as goal

pub returns : goal.returns
returns c = record { none = none_goes; first = first_goes }
