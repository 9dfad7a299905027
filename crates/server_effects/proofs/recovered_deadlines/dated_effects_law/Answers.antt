use Rattle.spec_exchange.specs.Step.{with_deadlines}
use Rattle.server_effects.proofs.recovered_deadlines.Able.{able}
use Rattle.server_effects.proofs.recovered_deadlines.Ready.{readied, shown}
use Rattle.server_effects.proofs.recovered_deadlines.Room.{is_prepared, to_carry}
use Rattle.server_effects.proofs.recovered_deadlines.dated_effects_law.Goals as goal

pub returns : goal.returns
returns c = record {
  able = λ s now m v h. able s (with_deadlines s now).deadline m v h;
  readied = λ t u s m now r h o. readied t u s (with_deadlines s now).deadline m now r h o;
  shown = λ t u s now h o. shown t u s (with_deadlines s now).deadline h o;
  prepared = λ t u s now e p h o. is_prepared t u s (with_deadlines s now).deadline now e p h o;
  room = to_carry;
}
