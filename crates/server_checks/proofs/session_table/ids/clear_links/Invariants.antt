use Rattle.std.proofs.Common.{◌≡◌, ℕ, if◌then◌else◌, nat_eq, take}
use Rattle.std.specs.HashMap.{get}
use Rattle.spec_exchange.specs.Table.{has}
use Rattle.server_checks.specs.session_table.Steps.{without_session}
use Rattle.server_checks.proofs.session_table.ids.clear_links.Given as goal

abbrev pub invariant-loop-connection : goal.invariant-loop-connection
invariant-loop-connection l =
    (q : ℕ) → get nat_eq l.links q ≡ (if has q (take l.connection-index l.channels) then without_session l.session
    (get nat_eq l.initial.links q) else get nat_eq l.initial.links q)
