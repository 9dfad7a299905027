use Rattle.std.proofs.Common.{◌≡◌, map, take}
use Rattle.world_ends.proofs.memory_server.copying.copy_users.Given as goal

abbrev pub invariant-loop-pair : goal.invariant-loop-pair
invariant-loop-pair l =
    l.users ≡ record { list = map (λ p. record { name = p.0; password = p.1 }) (take l.pair-index l.pairs); bare = l.from.bare }
