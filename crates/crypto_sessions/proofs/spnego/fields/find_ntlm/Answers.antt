use Rattle.std.proofs.Common.{◌≡◌, ◌<◌, length, arith}
use Rattle.std.proofs.lemmas.Bool.Decides.{nat_tests}
use Rattle.crypto_sessions.specs.spnego.Pieces.{der_piece, parted}
use Rattle.crypto_sessions.proofs.spnego.Mechanisms.{at_start, one_on, broken, ended}
use Rattle.crypto_sessions.proofs.spnego.fields.find_ntlm.Goals as goal

pub mechanisms-init : goal.mechanisms-init
mechanisms-init c = (at_start (der_piece c.args.p.now), c.requires)

pub returns-in-Err : goal.returns-in-Err
returns-in-Err c =
    let some : 0 < length c.mechanisms.rest.bytes.now = (let a = c.is_empty.ensures in let b = c.mechanisms-test.true in
    grind (arith, nat_tests)) in
    broken (der_piece c.args.p.now) (der_piece c.mechanisms.rest) c.in-Err.e c.mechanisms.found c.mechanisms.invariant.0
    some c.in-Err.ensures.same

pub mechanisms-preserved : goal.mechanisms-preserved
mechanisms-preserved c =
    let some : 0 < length c.mechanisms.rest.bytes.now = (let a = c.is_empty.ensures in let b = c.mechanisms-test.true in
    grind (arith, nat_tests)) in (
      rw (c.is_found-found.ensures) (one_on (der_piece c.args.p.now) (der_piece c.mechanisms.rest) (parted c.in-Ok.mechanism)
          c.mechanisms.found c.mechanisms.invariant.0 some c.in-Ok.ensures.same c.in-Ok.ensures.bounds.2),
      let a = c.mechanisms.invariant.1 in let b = c.in-Ok.ensures.bounds.1 in omega arith,
    )

pub returns : goal.returns
returns c =
    let none : length c.mechanisms.rest.bytes.now ≡ 0 = (let a = c.is_empty.ensures in let b = c.mechanisms-test.false
    in grind (arith, nat_tests)) in
    ended (der_piece c.args.p.now) (der_piece c.mechanisms.rest) c.mechanisms.found c.mechanisms.invariant.0 none
