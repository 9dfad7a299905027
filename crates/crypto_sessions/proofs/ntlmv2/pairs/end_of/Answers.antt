use Rattle.std.proofs.Common.{length, length-drop, ap, arith}
use Rattle.spec_crypto.specs.tokens.Pairs.{pair_size}
use Rattle.crypto_sessions.proofs.ntlmv2.Walks.{measured_at_start, measured_on, measured_break, measured_end}
use Rattle.crypto_sessions.proofs.ntlmv2.pairs.end_of.Goals as goal

pub pairs-init : goal.pairs-init
pairs-init c = measured_at_start c.args.bytes.now

pub pairs-preserved : goal.pairs-preserved
pairs-preserved c =
    let p = c.in-One.ensures in
    rw p.rest (measured_on c.args.bytes.now c.pairs.rest.now c.pairs.invariant p.stands)

pub pairs-smaller : goal.pairs-smaller
pairs-smaller c =
    let p = c.in-One.ensures in
    let fits = p.stands.fits in
    let drop = length-drop (pair_size c.pairs.rest.now) c.pairs.rest.now in
    let same = ap length p.rest in
    omega arith

pub returns-in-Broken : goal.returns-in-Broken
returns-in-Broken c =
    let e = measured_break c.args.bytes.now c.pairs.rest.now c.pairs.invariant c.in-Broken.ensures in
    record { same = omega arith; within = omega arith }

pub returns-in-End : goal.returns-in-End
returns-in-End c =
    let e = measured_end c.args.bytes.now c.pairs.rest.now c.pairs.invariant c.in-End.ensures in
    record { same = omega arith; within = omega arith }
