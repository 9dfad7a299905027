use Rattle.spec_exchange.specs.CheckOpen.{file_of}
use Rattle.server_checks.proofs.Sizes.{ended_same}
use Rattle.server_checks.proofs.tables.Tables.check_end.Goals as goal

pub returns : goal.returns
returns c = λ k s f t st. c.check_size.ensures k s f t st (ended_same c.args.size (s.content (file_of s c.args.id)))
