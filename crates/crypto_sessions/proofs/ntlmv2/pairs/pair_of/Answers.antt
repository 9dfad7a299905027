use Rattle.std.proofs.Common.{◌≡◌, ℕ, length, length-drop, sym, subst, ap, ◌∙◌, arith, Some}
use Rattle.spec_crypto.specs.tokens.Pairs.{pair_size}
use Rattle.crypto_sessions.proofs.ntlmv2.Walks.{searched_at_start, searched_on, searched_found, searched_break, searched_end}
use Rattle.crypto_sessions.proofs.ntlmv2.pairs.pair_of.Goals as goal

pub pairs-init : goal.pairs-init
pairs-init c = searched_at_start c.args.id c.args.bytes.now

pub returns-in-Broken : goal.returns-in-Broken
returns-in-Broken c = sym (searched_break c.args.id c.args.bytes.now c.pairs.rest.now c.pairs.invariant c.in-Broken.ensures)

pub returns-in-End : goal.returns-in-End
returns-in-End c = sym (searched_end c.args.id c.args.bytes.now c.pairs.rest.now c.pairs.invariant c.in-End.ensures)

pub pairs-smaller : goal.pairs-smaller
pairs-smaller c =
    let p = c.in-One.ensures in
    let fits = p.stands.fits in
    let drop = length-drop (pair_size c.pairs.rest.now) c.pairs.rest.now in
    let same = ap length p.rest in
    omega arith

pub returns-then-pair-id : goal.returns-then-pair-id
returns-then-pair-id c =
    let p = c.in-One.ensures in
    ap Some p.value ∙ sym (searched_found c.args.id c.args.bytes.now c.pairs.rest.now c.pairs.invariant p.stands (sym
    p.id ∙ c.if-pair-id.true))

pub pairs-preserved : goal.pairs-preserved
pairs-preserved c =
    let p = c.in-One.ensures in
    rw p.rest (searched_on c.args.id c.args.bytes.now c.pairs.rest.now c.pairs.invariant p.stands (subst (λ (n : ℕ). ¬
    (n ≡ c.args.id)) p.id c.if-pair-id.false))
