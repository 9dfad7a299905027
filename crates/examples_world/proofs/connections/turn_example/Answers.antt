use Rattle.examples_world.proofs.connections.Computed.{negotiate_first, negotiate_once, refused_barred}
use Rattle.examples_world.proofs.connections.turn_example.Goals as goal

pub returns : goal.returns
returns c = record { first = negotiate_first; once = negotiate_once; barred = refused_barred }
