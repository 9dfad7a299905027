use Rattle.std.proofs.Common.{arith, length-drop}
use Rattle.crypto_sessions.proofs.session_keys.Halves.{rest_is, by_gmac, by_cmac}
use Rattle.crypto_sessions.proofs.session_keys.signing.sign.Goals as goal

pub gmac_joined-requires : goal.gmac_joined-requires
gmac_joined-requires c = rw (rest_is c.args.message.now 64) (let l = length-drop 64 c.args.message.now in let h =
    c.requires.short in omega arith)

pub returns-then-signer-eq2 : goal.returns-then-signer-eq2
returns-then-signer-eq2 c = by_gmac c.args.signer.now c.args.message.now _ _ _ _ c.if-signer-eq2.true
    c.new_128-aes.ensures c.nonce_of.ensures c.unsigned_header-header.ensures c.gmac_joined.ensures

pub returns-else-signer-eq2 : goal.returns-else-signer-eq2
returns-else-signer-eq2 c = by_cmac c.args.signer.now c.args.message.now _ _ _ c.if-signer-eq2.false
    c.new_128-aes.ensures c.unsigned_header-header.ensures c.cmac_joined.ensures
