use Rattle.law_waiting.proofs.wait_runs.Coming.{comes_in, is_away}
use Rattle.law_waiting.proofs.wait_runs.Turning.{turn_goes}
use Rattle.law_waiting.proofs.wait_runs.each_turn_law.Goals as goal

pub returns : goal.returns
returns c = record { goes = turn_goes; comes = λ w t. record { comes = comes_in w t; turned_away = is_away w t } }
