use Rattle.std.proofs.Common.{◌+◌, ◌<◌, length, sym, subst, ◌∙◌, arith}
use Rattle.crypto_sessions.proofs.ntlmv2.Named.{SoFar, compared, one_more, all_seen}
use Rattle.crypto_sessions.proofs.ntlmv2.acceptor.place_of.Goals as goal

pub users-preserved : goal.users-preserved
users-preserved c =
    let item = c.index-users-k.result in
    let lt : c.users.k < length c.args.users.now = omega arith in
    subst (λ place. SoFar c.args.name.now c.args.users.now (c.users.k + 1) place) (sym c.first_found-place.ensures)
    (one_more c.args.name.now c.args.users.now c.users.k c.users.place c.in_ok-found.found item lt c.users.invariant
    (λ d. compared c.args.name.now c.as_slice-told.result.now c.as_str.result.now c.args.users.now c.users.k item d
    c.in_ok-found.found lt (c.as_slice-told.ensures ∙ c.in_ok-raised.ensures) c.as_str.ensures c.in_ok-found.ensures))

pub returns : goal.returns
returns c = all_seen c.args.name.now c.args.users.now c.users.k c.users.place (omega arith) c.users.invariant
