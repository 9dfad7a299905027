use Rattle.std.proofs.Common.{◌≡◌, drop}
use Rattle.spec_exchange.specs.State.{Server}
use Rattle.server_checks.specs.Looks.{any_open}
use Rattle.server_checks.specs.Shown.{TablesShown}
use Rattle.server_checks.proofs.tables.Tables.has_any_open.Given as goal

abbrev pub invariant-loop-file : goal.invariant-loop-file
invariant-loop-file l = (s : Server) → TablesShown l.self s → any_open s (drop l.file-index l.files) ≡ any_open s l.files
