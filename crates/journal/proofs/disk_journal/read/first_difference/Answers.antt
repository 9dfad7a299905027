use Rattle.std.proofs.Common.{◌≡◌, ℕ, take, subst, arith}
use Rattle.spec_wire.specs.journal.Grammar.{magic}
use Rattle.journal.proofs.disk_journal.Gates.{differs_in}
use Rattle.journal.proofs.disk_journal.Looks.{eighth_is, seven_are}
use Rattle.journal.proofs.disk_journal.read.first_difference.Goals as goal

pub returns-then-head-i : goal.returns-then-head-i
returns-then-head-i c = λ m long is. differs_in m c.args.head.now c.loop-i.i (omega arith) long is c.loop-i.invariant c.if-head-i.true

pub returns : goal.returns
returns c = λ m long is.
    let last : c.loop-i.i ≡ 7 = omega arith in
    c.form_of.ensures m long
    (seven_are m c.args.head.now is (subst (λ (k : ℕ). take k c.args.head.now ≡ take k magic) last c.loop-i.invariant))
    (eighth_is m c.args.head.now is)
