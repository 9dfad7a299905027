use Rattle.std.proofs.Common.{◌≡◌, ◌+◌, ℕ, List, [], subst, sym, arith}
use Rattle.client_values.specs.declared.operations.values.OpKind.{OpKind}
use Rattle.run_command.specs.Listing.{AreNumbersOf}
use Rattle.run_command.proofs.Listed.{none_bare, one_bare}
use Rattle.run_command.proofs.listing.bare.Goals as goal

pub loop-at-init : goal.loop-at-init
loop-at-init c = record {
  bare = subst (λ (xs : List (List ℕ)). (ops : List OpKind) → AreNumbersOf ops [] 0 xs) (sym c.in_ok-lists.ensures.items) none_bare;
  within = omega arith;
}

pub loop-at-preserved : goal.loop-at-preserved
loop-at-preserved c =
    let i = c.loop-at.invariant in
    let n = c.loop-at.at in
    record {
      bare = subst (λ (xs : List (List ℕ)). (ops : List OpKind) → AreNumbersOf ops [] (n + 1) xs) (sym c.in_ok-push.ensures.items)
          (one_bare n c.loop-at.lists.items c.new.result c.new.ensures i.bare);
      within = (let t = c.loop-at-test.true in omega (arith, t));
    }

pub returns : goal.returns
returns c =
    let i = c.loop-at.invariant in
    let e : c.loop-at.at ≡ c.args.count = (let l = i.within in let t = c.loop-at-test.false in omega (arith, l, t)) in
    subst (λ (n : ℕ). (ops : List OpKind) → AreNumbersOf ops [] n c.loop-at.lists.items) e i.bare
