use Rattle.law_client.proofs.spare_credits.Enough.{cost_low, same_choice}
use Rattle.law_client.proofs.spare_credits.choice_credits_law.Goals as goal

pub returns : goal.returns
returns c = record { costs = cost_low; same = λ d k m n from count slotless h a b. same_choice count d k m n from slotless a b h }
