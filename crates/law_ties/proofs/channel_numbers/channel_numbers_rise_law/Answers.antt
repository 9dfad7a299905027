use Rattle.law_ties.proofs.channel_numbers.Runs.{rising}
use Rattle.law_ties.proofs.channel_numbers.channel_numbers_rise_law.Goals as goal

pub returns : goal.returns
returns c = record { rising = rising }
