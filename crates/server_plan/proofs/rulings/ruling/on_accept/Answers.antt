use Rattle.std.proofs.Common.{◌≡◌, ap, arith, length}
use Rattle.server_plan.proofs.rulings.Ruled.{taken_in, turned_away}
use Rattle.server_plan.proofs.rulings.ruling.on_accept.Goals as goal

pub returns-then-connections-ge-MAX_CONNECTIONS : goal.returns-then-connections-ge-MAX_CONNECTIONS
returns-then-connections-ge-MAX_CONNECTIONS c = λ s h.
    let n : length c.connections.result.now ≡ length s.connections = ap length (c.connections.ensures s h.sessions) in
    turned_away s c.args.connection (omega arith)

pub returns : goal.returns
returns c = λ s h.
    let n : length c.connections.result.now ≡ length s.connections = ap length (c.connections.ensures s h.sessions) in
    taken_in s c.args.connection (omega arith)
