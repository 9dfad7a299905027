-- TREE_CONNECT and CREATE of a worked logon, computed as they are before they are sealed, and a TREE_CONNECT that is signed.
use Rattle.std.proofs.Common.{◌≡◌, [], ◌∷◌, refl, false}
use Rattle.std.specs.Char.Utf16.{utf16_chars}
use Rattle.std.specs.Str.{chars}
use lib.Utf8.{encode}
use Rattle.spec_exchange.specs.Commands.{has_bit, TreeConnect}
use Rattle.spec_exchange.specs.Records.{text_size, opened_size, record_size, records_size, entry_bytes, fits}
use Rattle.spec_exchange.specs.Step.{due_in}
use Rattle.spec_exchange.specs.Table.{is_filled}
use Rattle.spec_exchange.specs.Texts.{leaf_from, leaf_of, upper, same_name}
use Rattle.spec_commands.specs.BodyOf.{body_of}
use Rattle.spec_commands.specs.CommandOf.{command_of, message_of, tree_connect_in}
use Rattle.spec_commands.specs.Ids.{file_id, guid_id}
use Rattle.spec_commands.specs.Infos.{allocation, attributes_of, without_bit}
use Rattle.spec_commands.specs.ReplyBody.{reply_body}
use Rattle.spec_commands.specs.Tables.{bit_if}
use Rattle.spec_commands.specs.Text.{units_in, all_there, characters_in, text_in}
use Rattle.spec_wire.specs.messages.Chain.{is_badly_linked, piece}
use Rattle.spec_wire.specs.messages.CreateContexts.{flags_of}
use Rattle.spec_wire.specs.messages.Fault.{part_fault, count_fault}
use Rattle.spec_wire.specs.messages.Places.{number_of, le, bytes_at}
use Rattle.spec_wire.specs.messages.Utf16.{utf16}
use Rattle.spec_crypto.specs.sessions.Signing.{signed, verifies, signature}
use Rattle.spec_crypto.specs.ciphers.Aes.{replaced, mixed_columns, block_sum, round_key, rounds, after, cipher, constant}
use Rattle.spec_crypto.specs.ciphers.Aes.{word_change, next_word, expanded}
use Rattle.spec_crypto.specs.ciphers.Blocks.{block_at, chained}
use Rattle.spec_crypto.specs.ciphers.Cmac.{cmac, doubled_block, first_subkey, second_subkey, last_block, padded}
use Rattle.spec_crypto.specs.ciphers.Field.{sbox}
use Rattle.spec_world.specs.Answering.{said_body, gathered, texts_of, all_texts, concatenated, each_joined, told_each}
use Rattle.spec_world.specs.Connection.{went_all, last_status}
use Rattle.spec_world.specs.Hearing.{begins_sealed, checked_behind}
use Rattle.spec_world.specs.Logon.{token_in, exported, pending_by, answer_token_by}
use Rattle.spec_world.specs.Messages.{has_header, header_in, messages_from, messages_in, message_spelling}
use Rattle.spec_world.specs.Related.{file_place, file_past, with_file}
use Rattle.spec_world.specs.Sending.{request_text}
use Rattle.examples_world.specs.runs.Meeting.{first_id, sent, create_asked, tree_told, create_told, signed_tree_heard}
use Rattle.examples_world.specs.runs.Worked as worked
use Rattle.examples_world.specs.settings.Logon.{share_name}

pub tree_asked_is : request_text (sent 3 first_id 0 (TreeConnect share_name)) 1 false ≡ worked.tree_asked
unfolding request_text body_of message_spelling bit_if number_of le bytes_at utf16 chars
tree_asked_is = refl

pub tree_told_is : tree_told ≡ worked.tree_told
unfolding reply_body message_spelling bit_if number_of le bytes_at
tree_told_is = refl

pub create_asked_is : request_text (sent 4 first_id 1 create_asked) 1 false ≡ worked.create_asked
unfolding request_text body_of message_spelling bit_if number_of le bytes_at utf16 chars file_id guid_id flags_of
create_asked_is = refl

pub create_told_is : create_told ≡ worked.create_told
unfolding reply_body message_spelling bit_if number_of le bytes_at file_id guid_id flags_of allocation attributes_of
    without_bit has_bit
create_told_is = refl

pub signed_tree_is : signed_tree_heard.frames ≡ worked.signed_tree_told ∷ []
unfolding has_bit text_size opened_size record_size records_size entry_bytes fits due_in is_filled leaf_from leaf_of
    upper same_name command_of message_of tree_connect_in reply_body bit_if units_in all_there characters_in text_in
    body_of number_of le bytes_at part_fault count_fault is_badly_linked piece utf16 said_body gathered texts_of
    all_texts concatenated each_joined told_each went_all last_status begins_sealed checked_behind token_in exported
    pending_by answer_token_by has_header header_in messages_from messages_in message_spelling file_place file_past
    with_file signed verifies signature sbox replaced mixed_columns block_sum round_key rounds after cipher constant
    word_change next_word expanded block_at chained cmac doubled_block first_subkey second_subkey last_block padded
    chars utf16_chars encode
signed_tree_is = refl
