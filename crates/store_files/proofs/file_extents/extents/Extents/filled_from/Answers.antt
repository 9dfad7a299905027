use Rattle.std.proofs.Common.{refl, arith}
use Rattle.std.specs.Ordering.{nat_cmp}
use Rattle.std.specs.BTreeMap.{get}
use Rattle.store_files.proofs.file_extents.Told.{empty_begun, empty_on, empty_until, empty_behind, none_behind, past_end}
use Rattle.store_files.proofs.file_extents.extents.Extents.filled_from.Goals as goal

pub loop-from-init : goal.loop-from-init
loop-from-init c = (omega arith, empty_begun (λ q. get nat_cmp c.args.self.now.pieces q) c.args.at)

pub loop-from-preserved : goal.loop-from-preserved
loop-from-preserved c =
    let i = c.loop-from.invariant in
    let p = c.in-Some.ensures.behind in
    let a = c.saturating_add-from.ensures in
    let e = c.len-end.type_inv in
    let t = c.loop-from-test.true in (
      omega arith,
      empty_on (λ q. get nat_cmp c.args.self.now.pieces q) c.args.at c.loop-from.from c.in-Some.place _ i.1 p c.in-Some.ensures.first
          (c.if-is_filled.ensures.empty refl) (omega arith),
    )

pub loop-from-smaller : goal.loop-from-smaller
loop-from-smaller c =
    let p = c.in-Some.ensures.behind in
    let a = c.saturating_add-from.ensures in
    let e = c.len-end.type_inv in
    let t = c.loop-from-test.true in
    omega arith

pub returns-in_default : goal.returns-in_default
returns-in_default c = record {
  some = tt;
  none = λ b k i. empty_behind (λ q. get nat_cmp c.args.self.now.pieces q) c.args.at c.loop-from.from c.loop-from.invariant.1
      (none_behind (λ q. get nat_cmp c.args.self.now.pieces q) c.loop-from.from c.in_default.ensures.none) k;
}

pub returns-then-is_filled : goal.returns-then-is_filled
returns-then-is_filled c =
    let i = c.loop-from.invariant in
    let p = c.in-Some.ensures.behind in record {
      some = (
        omega arith,
        c.if-is_filled.ensures.filled refl,
        empty_until (λ q. get nat_cmp c.args.self.now.pieces q) c.args.at c.loop-from.from c.in-Some.place i.1 c.in-Some.ensures.first,
      );
      none = tt;
    }

pub returns : goal.returns
returns c = record {
  some = tt;
  none = λ b k i. empty_behind (λ q. get nat_cmp c.args.self.now.pieces q) c.args.at c.loop-from.from c.loop-from.invariant.1
      (past_end (λ q. get nat_cmp c.args.self.now.pieces q) b c.loop-from.from i.shows
      (let e = c.len-end.ensures b i in let t = c.loop-from-test.false in omega arith)) k;
}
