use Rattle.std.proofs.Common.{Option, sym, ap, ◌∙◌}
use Rattle.store_opens.specs.declared.open_index.keep.SessionOpens.{SessionOpens}
use Rattle.store_opens.specs.open_index.Keep.{lists_plain}
use Rattle.store_opens.proofs.open_index.SetLemmas.{contains_has, ordered_ascends}
use Rattle.store_opens.proofs.open_table.PlainLemmas.{plain_none, all_listed}
use Rattle.store_opens.proofs.open_table.table.Opens.plain_opens.Goals as goal

pub returns-in-Some : goal.returns-in-Some
returns-in-Some c = all_listed c.args.self.now c.args.session c.in-Some.row.now.plain.keys c.all_plain.result
    c.all_plain.ensures.listed (ordered_ascends _ c.all_plain.ensures.ordered)
    (λ o. ap (λ (r : Option SessionOpens). lists_plain r o) (sym c.in-Some.ensures.value) ∙ contains_has o c.in-Some.row.now.plain.keys)

pub returns-in-None : goal.returns-in-None
returns-in-None c = λ s i h. c.new.ensures.items ∙ plain_none c.args.self.now s c.args.session h i
    (λ o. ap (λ (r : Option SessionOpens). lists_plain r o) (sym c.in-None.ensures.value))
