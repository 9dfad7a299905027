use Rattle.std.proofs.Common.{ℕ, List, ap, ◌∙◌, rules}
use Rattle.spec_exchange.specs.Effects.{plain_in}
use Rattle.store_opens.proofs.open_table.DueLemmas.{first}
use Rattle.store_opens.proofs.open_table.PlainLemmas.{first_is_above, above_is}
use Rattle.store_opens.proofs.open_table.table.Opens.first_plain.Goals as goal

pub loop-id-init : goal.loop-id-init
loop-id-init c = λ s i h. ap (λ (xs : List ℕ). first (plain_in s c.args.session xs))
    (c.into_iter-id-iterator.ensures.into_iter_gives ∙ c.range-id-items.ensures.between (search rules))
    ∙ first_is_above s c.args.session c.args.above _ c.args.plain.now.keys (above_is c.args.above)
