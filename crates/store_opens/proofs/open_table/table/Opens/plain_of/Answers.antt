use Rattle.std.proofs.Common.{Option, sym, ap, ◌∙◌}
use Rattle.store_opens.specs.declared.open_index.keep.SessionOpens.{SessionOpens}
use Rattle.store_opens.specs.open_index.Keep.{lists_plain}
use Rattle.store_opens.proofs.open_index.SetLemmas.{contains_has, ordered_ascends}
use Rattle.store_opens.specs.open_table.Changes.{first_above}
use Rattle.store_opens.proofs.open_table.PlainLemmas.{plain_is_listed, plain_none}
use Rattle.store_opens.proofs.open_table.table.Opens.plain_of.Goals as goal

pub returns-in-Some : goal.returns-in-Some
returns-in-Some c = λ s i h. c.first_plain.ensures.first s i h
    ∙ ap (first_above c.args.above) (plain_is_listed c.args.self.now s c.args.session c.in-Some.row.now.plain.keys h i
    (ordered_ascends _ c.first_plain.ensures.ordered)
    (λ o. ap (λ (r : Option SessionOpens). lists_plain r o) (sym c.in-Some.ensures.value) ∙ contains_has o c.in-Some.row.now.plain.keys))

pub returns-in-None : goal.returns-in-None
returns-in-None c = λ s i h. ap (first_above c.args.above) (plain_none c.args.self.now s c.args.session h i
    (λ o. ap (λ (r : Option SessionOpens). lists_plain r o) (sym c.in-None.ensures.value)))
