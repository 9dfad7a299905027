use Rattle.std.proofs.Common.{◌≡◌, ℕ, true, List, sym, subst}
use Rattle.spec_exchange.specs.Table.{has}
use Rattle.store_opens.proofs.open_table.Added.{noted_end, kept_end}
use Rattle.store_opens.proofs.open_table.made.note_undated.Goals as goal

pub returns-in-Ok-clause-noted : goal.returns-in-Ok-clause-noted
returns-in-Ok-clause-noted c = subst (λ (v : List ℕ). has c.args.id v ≡ true) (sym c.in-Ok.ensures.items)
    (noted_end c.args.id c.args.undated.now.items)

pub returns-in-Ok-clause-others : goal.returns-in-Ok-clause-others
returns-in-Ok-clause-others c = λ o h. subst (λ (v : List ℕ). has o v ≡ true) (sym c.in-Ok.ensures.items)
    (kept_end c.args.id o c.args.undated.now.items h)
