-- A state with another count of the journal's bytes, and the records of an open that expires in front of an event.
use Rattle.std.specs.Prelude.{ℕ, List}
use Rattle.spec_exchange.specs.Records.{origin_at}
use Rattle.spec_exchange.specs.State as model
use Rattle.spec_exchange.specs.Step.{connection_of, expire_records}

abbrev pub counting : model.Server → ℕ → model.Server
counting s n = record s { journal = n }

abbrev pub front_of : model.Server → model.ServerEvent → ℕ → List model.Record
front_of s e o = expire_records s (origin_at (connection_of e)) o
