use Rattle.std.proofs.Common.{refl}
use Rattle.spec_crypto.specs.ciphers.Field.{sbox}
use Rattle.spec_crypto.specs.ciphers.Aes.{replaced, mixed_columns, block_sum, round_key, rounds, after, cipher, constant}
use Rattle.spec_crypto.specs.ciphers.Aes.{word_change, next_word, expanded}
use Rattle.spec_crypto.specs.ciphers.Blocks.{block_at, stream_byte, masked}
use Rattle.spec_crypto.specs.ciphers.Ghash.{shifted, bits_of, sum_at, hashed, ghash}
use Rattle.spec_crypto.specs.ciphers.Gcm.{counter_block, hash_key, sealed}
use Rattle.examples_world.proofs.ciphers.gcm_empty.Goals as goal

pub returns : goal.returns
unfolding sbox replaced mixed_columns block_sum round_key rounds after cipher constant word_change next_word expanded block_at stream_byte masked shifted bits_of sum_at hashed ghash counter_block hash_key sealed
returns c = refl
