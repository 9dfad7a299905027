use Rattle.std.proofs.Common.{nat_le, ap, ◌∙◌}
use Rattle.spec_exchange.specs.CheckCreate.{max_guids}
use Rattle.store_opens.proofs.open_table.Counts.{full_capped}
use Rattle.store_opens.proofs.open_table.table.Opens.is_full.Goals as goal

pub returns : goal.returns
returns c = λ s h. ap (nat_le max_guids) (c.guids_of.ensures s h) ∙ full_capped (s.guids c.args.session)
