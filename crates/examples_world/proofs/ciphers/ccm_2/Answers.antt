use Rattle.std.proofs.Common.{refl}
use Rattle.spec_crypto.specs.ciphers.Field.{sbox}
use Rattle.spec_crypto.specs.ciphers.Aes.{replaced, mixed_columns, block_sum, round_key, rounds, after, cipher, constant}
use Rattle.spec_crypto.specs.ciphers.Aes.{word_change, next_word, expanded}
use Rattle.spec_crypto.specs.ciphers.Blocks.{block_at, chained, stream_byte, masked}
use Rattle.spec_crypto.specs.ciphers.Ccm.{nonce_block, length_prefix, prefixed, sealed}
use Rattle.examples_world.proofs.ciphers.ccm_2.Goals as goal

pub returns : goal.returns
unfolding sbox replaced mixed_columns block_sum round_key rounds after cipher constant word_change next_word expanded block_at chained stream_byte masked nonce_block length_prefix prefixed sealed
returns c = refl
