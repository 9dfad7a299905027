use Rattle.spec_exchange.specs.Check.{check}
use Rattle.spec_exchange.specs.Step.{without_room}
use Rattle.law_server.proofs.tables.Checked.{checked, lesser}
use Rattle.server_plan.proofs.owed_records.Asked.{owing}
use Rattle.server_plan.proofs.owed_records.laws.owing_law.Goals as goal

pub returns : goal.returns
returns c = record {
  checked = λ s m i. owing s m (check s m) i (checked s m);
  without_room = λ s m i. owing s m (without_room (check s m)) i (lesser s m (check s m) (checked s m));
}
