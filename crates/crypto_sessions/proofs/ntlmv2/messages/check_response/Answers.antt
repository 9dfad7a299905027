use Rattle.std.proofs.Common.{◌≡◌, ◌≤◌, nat_lt, false, arith}
use Rattle.std.proofs.lemmas.Bool.Decides.{nat_tests}
use Rattle.crypto_sessions.proofs.ntlmv2.Forms.{behind}
use Rattle.crypto_sessions.proofs.ntlmv2.messages.check_response.Goals as goal

pub returns : goal.returns
returns c =
    let big : 44 ≤ c.args.place.count = omega arith in
    let long : nat_lt c.args.place.count 44 ≡ false = grind (arith, nat_tests) in
    let told = rw (behind 44 c.args.nt.now) at c.check_pairs.ensures in
    rw long told
