use Rattle.std.proofs.Common.{◌<◌, length, refl, ◌∙◌, arith, Some, None}
use Rattle.spec_crypto.specs.tokens.Acceptor.{owes_mic}
use Rattle.crypto_sessions.specs.ntlmv2.Views.{type3_view}
use Rattle.crypto_sessions.proofs.ntlmv2.Forms.{behind, owes}
use Rattle.crypto_sessions.proofs.ntlmv2.Walks.{no_pairs}
use Rattle.crypto_sessions.proofs.ntlmv2.acceptor.is_mic_owed.Goals as goal

pub returns-then-m-lt44 : goal.returns-then-m-lt44
unfolding owes_mic
returns-then-m-lt44 c = let short : length c.args.m.now.nt.now < 44 = omega arith in rw (no_pairs 6 c.args.m.now.nt.now short) refl

pub returns-in-None : goal.returns-in-None
returns-in-None c =
    let told = rw (behind 44 c.args.m.now.nt.now) at c.in-None.ensures in
    owes (type3_view c.args.m.now) None told

pub returns-in-Some : goal.returns-in-Some
returns-in-Some c =
    let told = rw (behind 44 c.args.m.now.nt.now) at c.in-Some.ensures in
    c.is_mic_bit_set.ensures ∙ owes (type3_view c.args.m.now) (Some c.in-Some.value.now) told
