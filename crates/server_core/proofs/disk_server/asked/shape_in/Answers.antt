use Rattle.server_core.proofs.disk_server.Shapes.{setup_alike}
use Rattle.server_core.proofs.disk_server.asked.shape_in.Goals as goal

pub returns-in-Message : goal.returns-in-Message
returns-in-Message c = rw c.in-Message.is c.shape_of.ensures

pub returns-in-Setup : goal.returns-in-Setup
returns-in-Setup c = rw c.in-Setup.is (λ token q r. setup_alike token _ q r)
