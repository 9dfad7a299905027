use Rattle.std.proofs.Common.{◌≡◌, ℕ, true, List, sym, subst}
use Rattle.spec_exchange.specs.Table.{has}
use Rattle.store_opens.proofs.open_table.Added.{noted_end, kept_end, pushed_is}
use Rattle.store_opens.proofs.open_table.made.push_undated.Goals as goal

pub returns-clause-noted : goal.returns-clause-noted
returns-clause-noted c = subst (λ (v : List ℕ). has c.args.id v ≡ true)
    (sym (pushed_is _ _ _ _ c.push.ensures.items (c.push.ensures.succeeds c.requires))) (noted_end c.args.id _)

pub returns-clause-others : goal.returns-clause-others
returns-clause-others c = λ o h. subst (λ (v : List ℕ). has o v ≡ true)
    (sym (pushed_is _ _ _ _ c.push.ensures.items (c.push.ensures.succeeds c.requires))) (kept_end c.args.id o _ h)
