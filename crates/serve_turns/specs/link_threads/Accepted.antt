-- How many of the links that a net accepted were served.
use Rattle.std.specs.Prelude.{◌≡◌, ℕ, ◌+◌, ◌^◌, ◌<◌, ◌≤◌}
use Rattle.serve_turns.specs.declared.link_threads.links.Halt.{Halt}
use Rattle.serve_turns.specs.declared.link_threads.links.Halt.TheVariants.{Count, NetFault, Ended, Memory}

-- How many were let go at once, by why no further one was accepted: the last one, where none is to be served any more, and where there
-- was no room for one more thread.
abbrev pub let_go : Halt → ℕ
let_go Count = 0
let_go NetFault = 0
let_go Ended = 1
let_go Memory = 1

-- So many links were served of at most so many, all where nothing came between. They are those that the net accepted, but for one that
-- was let go: its count of them, before and behind, which stands still at 2^64 - 1.
pub record AreAccepted (most served : ℕ) (halt : Halt) (links links' : ℕ) : Type 0 where
  pub within : served ≤ most
  pub all : halt ≡ Count → served ≡ most
  pub counted : links + (served + let_go halt) < 2 ^ 64 → links' ≡ links + (served + let_go halt)
