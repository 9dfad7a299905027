use Rattle.std.proofs.Common.{◌≡◌, ℕ, List, [], ◌∷◌, ◌++◌, length, set, sym, ◌∙◌, subst, arith}
use Rattle.std.proofs.lemmas.Grind.{common_steps}
use Rattle.client_steps.specs.unsent.Ascending.{Ascends}
use Rattle.client_steps.proofs.unsent.Rising.{ascends_first, ascends_further}
use Rattle.client_steps.proofs.unsent.later.add_later.Goals as goal

pub returns-then-last-ne0-clause-ascends : goal.returns-then-last-ne0-clause-ascends
returns-then-last-ne0-clause-ascends c = λ rows row a i.
    let old = c.args.later.now.items in
    let n : c.len-number.result ≡ length old = grind (arith, common_steps) in
    subst (λ (xs : List ℕ). Ascends (rows ++ row ∷ []) xs)
    (sym (c.link.ensures ∙ (λ t. set (c.push_reserved.ensures.items t) c.args.last (n t))))
    (ascends_further rows row old c.args.last c.if-last-ne0.true a i)

pub returns-else-last-ne0-clause-ascends : goal.returns-else-last-ne0-clause-ascends
returns-else-last-ne0-clause-ascends c = λ rows row a i.
    subst (λ (xs : List ℕ). Ascends (rows ++ row ∷ []) xs) (sym c.push_reserved.ensures.items)
    (ascends_first rows row c.args.later.now.items c.args.last c.if-last-ne0.false a i)
