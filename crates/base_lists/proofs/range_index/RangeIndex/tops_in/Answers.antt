use Rattle.std.proofs.Common.{◌≡◌, ℕ, ◌+◌, ◌<◌, ◌≤◌, List, [], ◌⊎◌, Option, append-nil, sym, ◌∙◌, subst, arith}
use Rattle.std.proofs.lemmas.Grind.{common_steps}
use Rattle.std.specs.Ordering.{nat_cmp}
use Rattle.std.specs.BTreeMap.{get}
use Rattle.base_lists.specs.range_index.Shown.{top}
use Rattle.base_lists.specs.declared.range_index.keys.Reach.{Reach}
use Rattle.base_lists.proofs.range_index.Changed.{at_key, last_of, none_if, spread, told_itself}
use Rattle.base_lists.proofs.range_index.Listed.{Listing, begun, goes_on, whole}
use Rattle.base_lists.proofs.range_index.RangeIndex.tops_in.Goals as goal

pub loop-key-init : goal.loop-key-init
loop-key-init c =
    let some : 0 < c.args.size = grind (arith, common_steps) in
    let ends = last_of c.args.at c.args.size c.saturating_add-last.result c.ranges.at.fits some c.saturating_add-last.ensures in
    record {
      number = c.top_of-number.ensures;
      behind = omega arith;
      within = ends.0;
      listed = begun (top c.args.self.now) c.args.at c.args.size c.args.into.now.items;
    }

pub returns-in_default : goal.returns-in_default
returns-in_default c =
    let keys : ℕ → Option Reach = λ q. get nat_cmp c.args.self.now.tops q in
    let some : 0 < c.args.size = grind (arith, common_steps) in
    let last = c.saturating_add-last.result in
    let ends = last_of c.args.at c.args.size last c.ranges.at.fits some c.saturating_add-last.ensures in
    let v = c.loop-key.invariant in
    let within : c.loop-key.from < c.args.at + c.args.size = (let a = v.within in let b = ends.1.0 in omega arith) in
    let fits : c.loop-key.from < 18446744073709551616 = (let a = v.within in let b = c.saturating_add-last.type_inv in omega arith) in
    let covers : (x : ℕ) → c.loop-key.from ≤ x → x < last + 1
    → (top c.args.self.now x ≡ c.loop-key.number) ⊎ (top c.args.self.now x ≡ 0) =
    λ x a b. spread keys c.loop-key.from x c.loop-key.number a (λ q m n. c.in_default.ensures.none q m (omega arith)) v.number in
    let w : Listing (top c.args.self.now) c.args.at c.args.size (last + 1) c.args.into.now.items c.add.new.into.items =
    subst (λ (xs : List ℕ). Listing (top c.args.self.now) c.args.at c.args.size (last + 1) c.args.into.now.items xs)
    (sym c.in_ok-add.ensures.ok)
    (goes_on (top c.args.self.now) c.args.at c.args.size c.loop-key.from
    (last + 1) c.loop-key.number c.args.into.now.items c.loop-key.into.items v.listed v.behind within fits
    v.number covers) in
    record {
      listed = whole (top c.args.self.now) c.args.at c.args.size (last + 1) c.args.into.now.items c.add.new.into.items w
          (λ x a b. let k = ends.1.1 x a b in omega arith);
      goes = (w.more, w.is);
    }

pub returns-then-size-eq0-clause-goes : goal.returns-then-size-eq0-clause-goes
returns-then-size-eq0-clause-goes c = ([], sym (append-nil c.args.into.now.items))

pub returns-in_err-add-clause-goes : goal.returns-in_err-add-clause-goes
returns-in_err-add-clause-goes c =
    let v = c.loop-key.invariant in (v.listed.more, c.in_err-add.ensures.err ∙ v.listed.is)

pub loop-key-preserved : goal.loop-key-preserved
loop-key-preserved c =
    let keys : ℕ → Option Reach = λ q. get nat_cmp c.args.self.now.tops q in
    let some : 0 < c.args.size = grind (arith, common_steps) in
    let ends = last_of c.args.at c.args.size c.saturating_add-last.result c.ranges.at.fits some c.saturating_add-last.ensures in
    let v = c.loop-key.invariant in
    let next = c.in-Some.key.at in
    let e = c.in-Some.ensures in
    let within : c.loop-key.from < c.args.at + c.args.size = (let a = v.within in let b = ends.1.0 in omega arith) in
    let fits : c.loop-key.from < 18446744073709551616 = (let a = v.within in let b = c.saturating_add-last.type_inv in omega arith) in
    let covers : (x : ℕ) → c.loop-key.from ≤ x → x < next
    → (top c.args.self.now x ≡ c.loop-key.number) ⊎ (top c.args.self.now x ≡ 0) =
    λ x a b. spread keys c.loop-key.from x c.loop-key.number a
    (λ q m n. none_if (keys q) (λ s. let l = e.first q m s in omega arith)) v.number in
    record {
      number = sym (at_key keys next 0 c.in-Some.key.reach e.key ∙ told_itself c.in-Some.key.reach);
      behind = (let a = v.behind in let b = e.behind.0 in omega arith);
      within = e.behind.1;
      listed = subst (λ (xs : List ℕ). Listing (top c.args.self.now) c.args.at c.args.size next c.args.into.now.items
          xs) (sym c.in_ok-add.ensures.ok)
          (goes_on (top c.args.self.now) c.args.at c.args.size c.loop-key.from next c.loop-key.number
          c.args.into.now.items c.loop-key.into.items v.listed v.behind within fits v.number covers);
    }
