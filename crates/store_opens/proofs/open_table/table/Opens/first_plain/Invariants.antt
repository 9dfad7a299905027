use Rattle.std.proofs.Common.{◌≡◌}
use Rattle.spec_exchange.specs.State.{Server}
use Rattle.spec_exchange.specs.Effects.{plain_in}
use Rattle.law_server.specs.tables.Fits.{Fits}
use Rattle.store_opens.specs.open_table.Changes.{first_above}
use Rattle.store_opens.specs.open_table.Shown.{ShowsOpens}
use Rattle.store_opens.proofs.open_table.DueLemmas.{first}
use Rattle.store_opens.proofs.open_table.table.Opens.first_plain.Given as goal

abbrev pub invariant-loop-id : goal.invariant-loop-id
invariant-loop-id l = (s : Server) → Fits s → ShowsOpens l.self s → first (plain_in s l.session l.id-iterator)
    ≡ first_above l.above (plain_in s l.session l.plain.keys)
