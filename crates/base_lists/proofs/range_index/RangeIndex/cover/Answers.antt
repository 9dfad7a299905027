use Rattle.std.proofs.Common.{◌≡◌, ℕ, ◌+◌, ◌<◌, ◌≤◌, ◌^◌, Option, ◌⊎◌, inl, inr, ◌∙◌, arith}
use Rattle.std.proofs.lemmas.Grind.{common_steps}
use Rattle.std.specs.Ordering.{nat_cmp}
use Rattle.std.specs.BTreeMap.{get}
use Rattle.base_lists.specs.declared.range_index.keys.Reach.{Reach}
use Rattle.base_lists.proofs.range_index.Changed.{covered, last_of}
use Rattle.base_lists.proofs.range_index.RangeIndex.cover.Goals as goal

pub returns-clause-ok : goal.returns-clause-ok
returns-clause-ok c =
    let k0 : ℕ → Option Reach = λ q. get nat_cmp c.args.self.now.tops q in
    let k1 : ℕ → Option Reach = λ q. get nat_cmp c.divide.new.tops q in
    let k2 : ℕ → Option Reach = λ q. get nat_cmp c.divide_behind.new.tops q in
    let k4 : ℕ → Option Reach = λ q. get nat_cmp c.put.new.tops q in
    let at = c.args.at in
    let size = c.args.size in
    let last = c.saturating_add-last.result in
    let some : 0 < size = grind (arith, common_steps) in
    let ends : (at ≤ last) × ((last < at + size) × ((x : ℕ) → x < at + size → x < 2 ^ 64 → x ≤ last)) =
    last_of at size last c.ranges.at.fits some c.saturating_add-last.ensures in
    covered k0 k2 k4 at size c.args.number last c.reach_over.result some
    (λ x. c.divide_behind.ensures.same x ∙ c.divide.ensures.same x)
    c.put.ensures.key
    c.reach_over.ensures.own
    (λ q a b. c.put.ensures.others q (λ e. omega arith) ∙ c.drop_behind.ensures.none q a b)
    (λ q h. apart q h ends.0 ∙ c.drop_behind.ensures.others q (near q h))
    ends.1.1
    (λ h. (
      ends.1.0,
      λ e. (
        c.divide_behind.ensures.same (at + size) ∙ (c.in_ok-divide_behind.ensures.key h e).0,
        c.reach_over.ensures.behind (c.in_ok-divide_behind.ensures.key h e).1,
      ),
    ))
  where
    near : (q : ℕ) → (q < c.args.at) ⊎ (c.saturating_add-last.result < q) → (q ≤ c.args.at) ⊎ (c.saturating_add-last.result < q)
    near q (inl h) = inl (omega arith)
    near q (inr h) = inr h

    apart : (q : ℕ) → (q < c.args.at) ⊎ (c.saturating_add-last.result < q) → c.args.at ≤ c.saturating_add-last.result
        → get nat_cmp c.put.new.tops q ≡ get nat_cmp c.drop_behind.new.tops q
    apart q (inl h) l = c.put.ensures.others q (λ e. omega arith)
    apart q (inr h) l = c.put.ensures.others q (λ e. omega arith)
