-- What is only signed, where sealing is owed and where it isn't, and its signed or unsigned reply, computed.
use Rattle.std.proofs.Common.{◌≡◌, [], ◌∷◌, true, false, Some, refl}
use Rattle.spec_exchange.specs.Commands.{has_bit}
use Rattle.spec_exchange.specs.Records.{text_size, opened_size, record_size, records_size, entry_bytes, fits}
use Rattle.spec_exchange.specs.Step.{due_in}
use Rattle.spec_exchange.specs.Table.{is_filled}
use Rattle.spec_commands.specs.CommandOf.{command_of, message_of}
use Rattle.spec_commands.specs.ReplyBody.{reply_body}
use Rattle.spec_commands.specs.Tables.{bit_if}
use Rattle.spec_wire.specs.messages.Places.{number_of, le, bytes_at}
use Rattle.spec_wire.specs.messages.Fault.{part_fault, count_fault}
use Rattle.spec_world.specs.Answering.{said_body, gathered, texts_of, all_texts, concatenated, each_joined, told_each}
use Rattle.spec_world.specs.Connection.{went_all, last_status}
use Rattle.spec_world.specs.Hearing.{begins_sealed, checked_behind}
use Rattle.spec_world.specs.Logon.{token_in, exported, pending_by, answer_token_by}
use Rattle.spec_world.specs.Messages.{has_header, header_in, messages_from, messages_in, message_spelling}
use Rattle.spec_world.specs.Related.{file_place, file_past, with_file}
use Rattle.spec_crypto.specs.sessions.Signing.{signed, verifies, signature}
use Rattle.spec_crypto.specs.ciphers.Field.{sbox}
use Rattle.spec_crypto.specs.ciphers.Aes.{replaced, mixed_columns, block_sum, round_key, rounds, after}
use Rattle.spec_crypto.specs.ciphers.Aes.{cipher, constant, word_change, next_word, expanded}
use Rattle.spec_crypto.specs.ciphers.Blocks.{block_at, chained}
use Rattle.spec_crypto.specs.ciphers.Cmac.{cmac, doubled_block, first_subkey, second_subkey, last_block, padded}
use Rattle.examples_world.specs.runs.Ends.{frame_step, echo}
use Rattle.examples_world.specs.runs.Keyed.{keyed_end, signed_echo, signed_reply, unsigned_refusal}

pub sealing_owed :
    ((frame_step (keyed_end true) signed_echo).status ≡ Some 0xc000_0022) × ((frame_step (keyed_end false) signed_echo).status ≡ Some 0)
unfolding has_bit text_size opened_size record_size records_size entry_bytes fits due_in is_filled command_of message_of
    reply_body bit_if number_of le bytes_at part_fault count_fault said_body gathered texts_of all_texts concatenated
    each_joined told_each went_all last_status begins_sealed checked_behind token_in exported pending_by answer_token_by
    has_header header_in messages_from messages_in message_spelling file_place file_past with_file signed verifies
    signature sbox replaced mixed_columns block_sum round_key rounds after cipher constant word_change next_word
    expanded block_at chained cmac doubled_block first_subkey second_subkey last_block padded
sealing_owed = (refl, refl)

pub signed_replies : (frame_step (keyed_end false) signed_echo).frames ≡ signed_reply ∷ []
unfolding has_bit text_size opened_size record_size records_size entry_bytes fits due_in is_filled command_of message_of
    reply_body bit_if number_of le bytes_at part_fault count_fault said_body gathered texts_of all_texts concatenated
    each_joined told_each went_all last_status begins_sealed checked_behind token_in exported pending_by answer_token_by
    has_header header_in messages_from messages_in message_spelling file_place file_past with_file signed verifies
    signature sbox replaced mixed_columns block_sum round_key rounds after cipher constant word_change next_word
    expanded block_at chained cmac doubled_block first_subkey second_subkey last_block padded
signed_replies = refl

pub unsigned_refusals :
    ((frame_step (keyed_end false) (echo 1 0)).frames ≡ unsigned_refusal ∷ [])
    × ((frame_step (keyed_end true) signed_echo).frames ≡ unsigned_refusal ∷ [])
unfolding has_bit text_size opened_size record_size records_size entry_bytes fits due_in is_filled command_of message_of
    reply_body bit_if number_of le bytes_at part_fault count_fault said_body gathered texts_of all_texts concatenated
    each_joined told_each went_all last_status begins_sealed checked_behind token_in exported pending_by answer_token_by
    has_header header_in messages_from messages_in message_spelling file_place file_past with_file signed verifies
    signature sbox replaced mixed_columns block_sum round_key rounds after cipher constant word_change next_word
    expanded block_at chained cmac doubled_block first_subkey second_subkey last_block padded
unsigned_refusals = (refl, refl)
