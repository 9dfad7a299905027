-- Where no memory was found the state is as before, as a frame's step has it.
use Rattle.std.proofs.Common.{ℕ, List, inl, inr}
use Rattle.spec_exchange.specs.State as model
use Rattle.spec_world.specs.Lacking.{IsAsBefore}
use Rattle.conn_core.specs.served.Serving.{LeftBy}

pub as_before : (s : model.Server) (now : ℕ) (e : model.ServerEvent) (t : model.Server) (more : List model.Record)
    → LeftBy s now e t more → IsAsBefore s now e t
as_before s now e t more (inl (same, none)) = inl same
as_before s now e t more (inr (o, expires, is)) = inr (o, expires)
