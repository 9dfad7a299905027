use Rattle.std.proofs.Common.{◌≡◌, Bool, true, false, Ok, subst, arith}
use Rattle.drill_command.proofs.settling.Rounds.{ends_over, ends_settled, none_gone, one_gone}
use Rattle.drill_command.specs.settling.Parts.{RoundsAs}
use Rattle.drill_command.proofs.settling.settling.go_rounds.Goals as goal

pub loop-left-init : goal.loop-left-init
loop-left-init c = none_gone c.args.world.now c.args.most

pub loop-left-preserved : goal.loop-left-preserved
loop-left-preserved c =
    let some : c.loop-left.left ≡ 0 → ⊥ = (λ e. (let t = c.loop-left-test.true in omega (arith, e, t))) in
    one_gone c.args.world.now c.loop-left.world c.round_if.new.world c.loop-left.left c.args.most some c.loop-left.invariant
    (λ z d h. subst (λ (b : Bool). RoundsAs z d c.round_if.new.world (Ok b)) c.in-Ok-true.field-0-test (c.in-Ok-true.ensures z d h))

pub returns-in-Ok-false : goal.returns-in-Ok-false
returns-in-Ok-false c = λ z d h.
    let r = c.loop-left.invariant z d h in
    let some : c.loop-left.left ≡ 0 → ⊥ = (λ e. (let t = c.loop-left-test.true in omega (arith, e, t))) in
    let e = subst (λ (b : Bool). RoundsAs z r.now c.round_if.new.world (Ok b)) c.in-Ok-false.field-0-test
    (c.in-Ok-false.ensures z r.now r.shown) in
    ends_settled z c.loop-left.world c.round_if.new.world c.loop-left.left c.args.most d some r e.0 e.1

pub returns-in-Err : goal.returns-in-Err
returns-in-Err c = λ z d h. (let r = c.loop-left.invariant z d h in c.in-Err.ensures z r.now r.shown)

pub returns : goal.returns
returns c = λ z d h.
    let none : c.loop-left.left ≡ 0 = (let t = c.loop-left-test.false in omega (arith, t)) in
    ends_over z c.loop-left.world c.loop-left.left c.args.most d none (c.loop-left.invariant z d h)
