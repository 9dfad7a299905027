use Rattle.std.proofs.Common.{◌≡◌, take, length}
use Rattle.spec_crypto.specs.ciphers.Aes.{expanded}
use Rattle.crypto_ciphers.proofs.aes_block.key.expanded_of.Given as goal

abbrev pub invariant-loop-i : goal.invariant-loop-i
invariant-loop-i l = record { known : take l.i l.words ≡ expanded l.key_words l.key l.i; len : length l.words ≡ 60 }
