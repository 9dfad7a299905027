use Rattle.std.proofs.Common.{length, length-drop, refl, ap, arith}
use Rattle.spec_crypto.specs.tokens.Pairs.{pair_size}
use Rattle.spec_crypto.specs.tokens.Messages.{info_fault, pairs_fault}
use Rattle.crypto_sessions.proofs.ntlmv2.Walks.{checked_at_start, checked_on, checked_break, checked_end}
use Rattle.crypto_sessions.proofs.ntlmv2.pairs.check_pairs.Goals as goal

pub pairs-init : goal.pairs-init
pairs-init c = (checked_at_start c.args.at c.args.bytes.now, refl)

pub returns-in-Broken : goal.returns-in-Broken
unfolding info_fault
returns-in-Broken c = ap pairs_fault (checked_break c.args.at c.args.bytes.now c.pairs.place c.pairs.rest.now
    c.pairs.invariant.0 c.in-Broken.ensures)

pub returns-in-End : goal.returns-in-End
unfolding info_fault
returns-in-End c = ap pairs_fault (checked_end c.args.at c.args.bytes.now c.pairs.place c.pairs.rest.now
    c.pairs.invariant.0 c.in-End.ensures)

pub pairs-preserved : goal.pairs-preserved
pairs-preserved c =
    let p = c.in-One.ensures in
    let fits = p.stands.fits in
    let size = p.count in
    let drop = length-drop (pair_size c.pairs.rest.now) c.pairs.rest.now in
    let all = c.pairs.invariant.1 in
    rw (p.count, p.rest) (checked_on c.args.at c.args.bytes.now c.pairs.place c.pairs.rest.now c.pairs.invariant.0 p.stands, omega arith)

pub pairs-smaller : goal.pairs-smaller
pairs-smaller c =
    let p = c.in-One.ensures in
    let fits = p.stands.fits in
    let drop = length-drop (pair_size c.pairs.rest.now) c.pairs.rest.now in
    let same = ap length p.rest in
    omega arith
