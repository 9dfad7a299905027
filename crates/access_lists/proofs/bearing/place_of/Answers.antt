use Rattle.std.proofs.Common.{◌≡◌, ◌≤◌, ◌<◌, ◌+◌, ◌*◌, ◌%◌, length, get_or, drop, arith, sym, ap, ◌∙◌}
use Rattle.std.proofs.lemmas.Bool.Decides.{nat_tests}
use Rattle.spec_exchange.specs.Texts.{upper}
use Rattle.access_lists.specs.Index.{place_from}
use Rattle.access_lists.proofs.Comparing.{place_begins, place_step, place_ends, place_behind}
use Rattle.access_lists.proofs.bearing.place_of.Goals as goal

pub loop-i-init : goal.loop-i-init
loop-i-init c = (omega arith, omega arith, place_begins c.args.path.now)

pub returns-then-path-i-eq92-clause-is : goal.returns-then-path-i-eq92-clause-is
returns-then-path-i-eq92-clause-is c =
    let v = c.loop-i.invariant in
    let inside : c.loop-i.i < length c.args.path.now = (let t = c.loop-i-test.true in grind (arith, nat_tests)) in
    sym (v.2 ∙ place_ends c.loop-i.place c.args.path.now c.loop-i.i inside (let e = c.if-path-i-eq92.true in grind (arith, nat_tests)))

pub loop-i-preserved : goal.loop-i-preserved
loop-i-preserved c =
    let v = c.loop-i.invariant in
    let inside : c.loop-i.i < length c.args.path.now = (let t = c.loop-i-test.true in grind (arith, nat_tests)) in
    let is : c.from.result ≡ upper (get_or c.args.path.now c.loop-i.i 0) =
    (let a = c.from.ensures in let b = c.upper.ensures in grind arith) in (
      omega (arith, inside),
      omega arith,
      v.2 ∙ place_step c.loop-i.place c.args.path.now c.loop-i.i inside (let e = c.if-path-i-eq92.false in grind (arith, nat_tests))
          ∙ ap (λ u. place_from ((c.loop-i.place * 31 + u) % 64) (drop (c.loop-i.i + 1) c.args.path.now)) (sym is),
    )

pub returns-clause-is : goal.returns-clause-is
returns-clause-is c =
    let v = c.loop-i.invariant in
    let ended : length c.args.path.now ≤ c.loop-i.i = (let t = c.loop-i-test.false in grind (arith, nat_tests)) in
    sym (v.2 ∙ place_behind c.loop-i.place c.args.path.now c.loop-i.i ended)
