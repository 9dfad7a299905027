use Rattle.std.proofs.Common.{◌≡◌, ◌-◌, ◌==◌, true, false, get_or, take, drop, arith}
use Rattle.std.proofs.lemmas.List.{places}
use Rattle.std.proofs.lemmas.Bool.Decides.{nat_tests}
use Rattle.spec_exchange.specs.Texts.{is_component}
use Rattle.store_files.proofs.names.Components.{behind_slash, no_component}
use Rattle.store_files.proofs.names.names.read_one.Goals as goal

pub returns-then-is_component-clause-some : goal.returns-then-is_component-clause-some
returns-then-is_component-clause-some c =
    let r = c.requires in
    let s : (get_or c.args.path.now c.args.i 0 == 92) ≡ true = (let x = c.if-path-i-ne92.false in grind (arith, places, nat_tests)) in
    let e : is_component (take (c.args.i - c.args.first) (drop c.args.first c.args.path.now)) ≡ true =
    (let x = c.is_component.ensures in let y = c.if-is_component.true in cc) in
    (omega arith, behind_slash c.args.first c.args.i c.args.path.now r.1 s e)

pub returns-clause-none : goal.returns-clause-none
returns-clause-none c =
    let r = c.requires in
    let s : (get_or c.args.path.now c.args.i 0 == 92) ≡ true = (let x = c.if-path-i-ne92.false in grind (arith, places, nat_tests)) in
    let e : is_component (take (c.args.i - c.args.first) (drop c.args.first c.args.path.now)) ≡ false =
    (let x = c.is_component.ensures in let y = c.if-is_component.false in cc) in
    no_component c.args.first c.args.i c.args.path.now r.1 s e
