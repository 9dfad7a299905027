use Rattle.std.proofs.Common.{◌≡◌, ℕ, Bool, false, List, set, sym, subst, ◌∙◌}
use Rattle.client_rows.specs.declared.operation_rows.row.Row.{Row}
use Rattle.client_rows.specs.declared.operation_rows.chains.Chain.{Chain}
use Rattle.client_rows.specs.operation_rows.Rows.{row_at, stands, with_link, links}
use Rattle.client_rows.specs.operation_rows.Chains.{Chained, Reaches}
use Rattle.client_rows.proofs.operation_rows.Walking.{Walks, chained_new, positive, walk_next, walk_skips}
use Rattle.client_rows.proofs.operation_rows.chains.first_unsettled.Goals as goal

-- a link that was read leads there
reached : (chain : Chain) (old rows : List Row) (from at next : ℕ) → Walks chain old rows from at → (at ≡ 0 → ⊥)
    → (row_at rows at).unsettled ≡ false → links chain rows at ≡ next
    → (on : ℕ → ℕ → Bool) → Chained (links chain old) on (stands old) → Reaches on (stands old) from next
reached chain old rows from at next w p e l on k =
    subst (λ z. Reaches on (stands old) from z) l ((walk_next chain old rows from at w (positive at p) e).reaches on k)

-- a link that skips one was written
skipped_on : (chain : Chain) (old rows : List Row) (from at next behind : ℕ) (row : Row) → Walks chain old rows from at
    → (at ≡ 0 → ⊥) → (row_at rows at).unsettled ≡ false → next ≡ links chain rows at → (next ≡ 0 → ⊥)
    → (row_at rows next).unsettled ≡ false → behind ≡ links chain rows next → row ≡ with_link chain (row_at rows at) behind
    → Walks chain old (set rows at row) from behind
skipped_on chain old rows from at next behind row w p e l q f b r =
    subst (λ (z : Row). Walks chain old (set rows at z) from behind) (sym r)
    (subst (λ z. Walks chain old (set rows at (with_link chain (row_at rows at) z)) from z) (sym b)
    (walk_skips chain old rows from at next w (positive at p) e (sym l) (positive next q) f))

pub returns-then-rows-at-clause-chained : goal.returns-then-rows-at-clause-chained
returns-then-rows-at-clause-chained c = λ on k. chained_new c.args.chain c.args.rows.now c.loop-at.rows c.args.from
    c.loop-at.at c.loop-at.invariant on k

pub returns-then-next-eq0-clause-reaches : goal.returns-then-next-eq0-clause-reaches
returns-then-next-eq0-clause-reaches c = λ on k. reached c.args.chain c.args.rows.now c.loop-at.rows c.args.from
    c.loop-at.at 0 c.loop-at.invariant c.loop-at-test.true c.if-rows-at.false (sym c.link-next.ensures ∙ c.if-next-eq0.true) on k

pub returns-then-next-eq0-clause-chained : goal.returns-then-next-eq0-clause-chained
returns-then-next-eq0-clause-chained c = λ on k. chained_new c.args.chain c.args.rows.now c.loop-at.rows c.args.from
    c.loop-at.at c.loop-at.invariant on k

pub returns-then-rows-next-clause-reaches : goal.returns-then-rows-next-clause-reaches
returns-then-rows-next-clause-reaches c = λ on k. reached c.args.chain c.args.rows.now c.loop-at.rows c.args.from
    c.loop-at.at c.link-next.result c.loop-at.invariant c.loop-at-test.true c.if-rows-at.false (sym c.link-next.ensures) on k

pub returns-then-rows-next-clause-chained : goal.returns-then-rows-next-clause-chained
returns-then-rows-next-clause-chained c = λ on k. chained_new c.args.chain c.args.rows.now c.loop-at.rows c.args.from
    c.loop-at.at c.loop-at.invariant on k

pub loop-at-preserved : goal.loop-at-preserved
loop-at-preserved c = skipped_on c.args.chain c.args.rows.now c.loop-at.rows c.args.from c.loop-at.at c.link-next.result
    c.link-behind.result c.relinked.result c.loop-at.invariant c.loop-at-test.true c.if-rows-at.false
    c.link-next.ensures c.if-next-eq0.false c.if-rows-next.false c.link-behind.ensures c.relinked.ensures

pub returns-clause-chained : goal.returns-clause-chained
returns-clause-chained c = λ on k. chained_new c.args.chain c.args.rows.now c.loop-at.rows c.args.from c.loop-at.at c.loop-at.invariant on k
