use Rattle.std.proofs.Common.{◌<◌, ◌≤◌, ◌/◌, List, ℕ, length, arith}
use Rattle.spec_world.specs.Negotiate.{has_dialect}
use Rattle.conn_core.proofs.negotiating.Dialects.{goes_on, is_found, is_none}
use Rattle.conn_core.proofs.negotiating.greeting.has_dialect.Goals as goal

pub returns-then-u16_at-eq785 : goal.returns-then-u16_at-eq785
unfolding has_dialect
returns-then-u16_at-eq785 c =
    let m : List ℕ = c.args.dialects.now in
    let k : ℕ = c.loop-k.k in
    let less : k < length m / 2 = (let a = c.loop-k.auto.k-end in let b = c.loop-k-test.true in omega arith) in
    is_found m k (length m / 2) c.u16_at.result _ less c.u16_at.ensures.value c.if-u16_at-eq785.true c.loop-k.invariant

pub loop-k-preserved : goal.loop-k-preserved
loop-k-preserved c =
    let m : List ℕ = c.args.dialects.now in
    let k : ℕ = c.loop-k.k in
    let less : k < length m / 2 = (let a = c.loop-k.auto.k-end in let b = c.loop-k-test.true in omega arith) in
    goes_on m k (length m / 2) c.u16_at.result _ less c.u16_at.ensures.value c.if-u16_at-eq785.false c.loop-k.invariant

pub returns : goal.returns
unfolding has_dialect
returns c =
    let m : List ℕ = c.args.dialects.now in
    let k : ℕ = c.loop-k.k in
    let past : length m / 2 ≤ k = (let a = c.loop-k.auto.k-end in let b = c.loop-k-test.false in omega arith) in
    is_none m k (length m / 2) _ past c.loop-k.invariant
