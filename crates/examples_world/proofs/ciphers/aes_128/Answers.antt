use Rattle.std.proofs.Common.{refl}
use Rattle.spec_crypto.specs.ciphers.Field.{sbox}
use Rattle.spec_crypto.specs.ciphers.Aes.{replaced, mixed_columns, block_sum, round_key, rounds, after, cipher, constant}
use Rattle.spec_crypto.specs.ciphers.Aes.{word_change, next_word, expanded}
use Rattle.examples_world.proofs.ciphers.aes_128.Goals as goal

pub returns : goal.returns
unfolding sbox replaced mixed_columns block_sum round_key rounds after cipher constant word_change next_word expanded
returns c = refl
