use Rattle.spec_exchange.specs.Fold.{nothing_yet}
use Rattle.server_core.proofs.Bodies.{spell_more}
use Rattle.server_core.proofs.SnapshotBodies.{over_more}
use Rattle.server_core.proofs.laws.more_law.Goals as goal

pub returns : goal.returns
returns c = record { plain = spell_more nothing_yet; over = over_more }
