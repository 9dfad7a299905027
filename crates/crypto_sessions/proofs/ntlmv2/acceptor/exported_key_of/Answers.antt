use Rattle.std.proofs.Common.{◌≡◌, true, take, sym, ◌∙◌, arith}
use Rattle.std.proofs.lemmas.List.{take_all}
use Rattle.spec_crypto.specs.tokens.Acceptor.{exchanges}
use Rattle.crypto_sessions.proofs.ntlmv2.acceptor.exported_key_of.Goals as goal

pub returns-then-has_key_exchange : goal.returns-then-has_key_exchange
returns-then-has_key_exchange c =
    let e : exchanges c.args.m.now.flags ≡ true = sym c.has_key_exchange.ensures ∙ c.if-has_key_exchange.true in
    let long = c.requires.sent e in
    let whole : take 16 c.args.m.now.session_key.now ≡ c.args.m.now.session_key.now = take_all 16
    c.args.m.now.session_key.now (omega arith) in
    rw e (cc)
