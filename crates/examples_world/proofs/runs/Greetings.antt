-- NEGOTIATE and the SESSION_SETUPs of a worked logon, computed; the client's second token and the server's last one stand in it as
-- another implementation makes them.
use Rattle.std.proofs.Common.{◌≡◌, [], ◌∷◌, refl, false}
use Rattle.spec_exchange.specs.Commands.{has_bit}
use Rattle.spec_exchange.specs.Records.{text_size, opened_size, record_size, records_size, entry_bytes, fits}
use Rattle.spec_exchange.specs.Step.{due_in}
use Rattle.spec_exchange.specs.Table.{is_filled}
use Rattle.spec_commands.specs.CommandOf.{command_of, message_of, setup_in}
use Rattle.spec_commands.specs.ReplyBody.{reply_body}
use Rattle.spec_commands.specs.Tables.{bit_if}
use Rattle.spec_wire.specs.messages.Contexts.{contexts_end, contexts_fault, contexts_in, with_contexts}
use Rattle.spec_wire.specs.messages.Fault.{part_fault, count_fault}
use Rattle.spec_wire.specs.messages.Offer.{all_fit, doubled, first_of, has_id, ids_at}
use Rattle.spec_wire.specs.messages.Places.{number_of, le, bytes_at}
use Rattle.spec_crypto.specs.sessions.Choice.{cipher_of, signing_of}
use Rattle.spec_crypto.specs.sessions.Signing.{signed, signature}
use Rattle.spec_crypto.specs.ciphers.Aes.{replaced, mixed_columns, block_sum, round_key, rounds, after, cipher, constant}
use Rattle.spec_crypto.specs.ciphers.Aes.{word_change, next_word, expanded}
use Rattle.spec_crypto.specs.ciphers.Blocks.{block_at, chained}
use Rattle.spec_crypto.specs.ciphers.Cmac.{cmac, doubled_block, first_subkey, second_subkey, last_block, padded}
use Rattle.spec_crypto.specs.ciphers.Field.{sbox}
use Rattle.spec_crypto.specs.tokens.Acceptor.{challenge}
use Rattle.spec_crypto.specs.tokens.Answer.{first_message}
use Rattle.spec_crypto.specs.tokens.Der.{length_in, element, ends, spelled}
use Rattle.spec_crypto.specs.tokens.Messages.{start_fault, type2_spelling}
use Rattle.spec_crypto.specs.tokens.Spnego.{byte_is, spnego_named, octets, passed, names_ntlm, begins_with_ntlm, names_in, mech_types}
use Rattle.spec_crypto.specs.tokens.Spnego.{hints, init_fields, init_choice, init_in, init_spelling, resp_spelling}
use Rattle.spec_crypto.specs.tokens.Tokens.{hint_token, first_token, first_in, begun_by, is_unlisted, second_of, challenge_token, shown}
use Rattle.spec_world.specs.Answering.{said_body, gathered, texts_of, all_texts, concatenated, each_joined, told_each}
use Rattle.spec_world.specs.Connection.{went_all, last_status}
use Rattle.spec_world.specs.Hearing.{begins_sealed, checked_behind}
use Rattle.spec_world.specs.Logon.{token_in, exported, pending_by, answer_token_by}
use Rattle.spec_world.specs.Messages.{has_header, header_in, messages_from, messages_in, message_spelling}
use Rattle.spec_world.specs.Negotiate.{has_dialect, negotiate_status, negotiated, client_told, negotiate_response_body}
use Rattle.spec_world.specs.Negotiate.{negotiate_request_body}
use Rattle.spec_world.specs.Related.{file_place, file_past, with_file}
use Rattle.spec_world.specs.Sending.{greeting_text, setup_text}
use Rattle.examples_world.specs.runs.Meeting.{client_of_logon, first_id, dialog_sent, greeting_heard, first_setup_heard, last_told}
use Rattle.examples_world.specs.runs.Worked as worked

pub greeting_asked : greeting_text client_of_logon worked.client_salt (dialog_sent 0 0) ≡ worked.greeting
unfolding greeting_text negotiate_request_body message_spelling bit_if with_contexts contexts_end number_of le bytes_at
greeting_asked = refl

pub greeting_told : greeting_heard.frames ≡ worked.greeting_reply ∷ []
unfolding has_bit text_size opened_size record_size records_size entry_bytes fits due_in is_filled command_of message_of
    reply_body bit_if number_of le bytes_at part_fault count_fault said_body gathered texts_of all_texts concatenated
    each_joined told_each went_all last_status begins_sealed checked_behind token_in exported pending_by answer_token_by
    has_header header_in messages_from messages_in message_spelling file_place file_past with_file contexts_end
    contexts_fault contexts_in with_contexts all_fit doubled first_of has_id ids_at cipher_of signing_of has_dialect
    negotiate_status negotiated client_told negotiate_response_body hint_token init_spelling spelled
greeting_told = refl

pub first_setup_asked : setup_text false 0 first_token (dialog_sent 1 0) ≡ worked.first_setup
unfolding setup_text first_token first_message init_spelling spelled message_spelling bit_if number_of le bytes_at
first_setup_asked = refl

pub interim_told : first_setup_heard.frames ≡ worked.interim ∷ []
unfolding has_bit text_size opened_size record_size records_size entry_bytes fits due_in is_filled command_of message_of
    reply_body bit_if number_of le bytes_at part_fault count_fault said_body gathered texts_of all_texts concatenated
    each_joined told_each went_all last_status begins_sealed checked_behind token_in exported pending_by answer_token_by
    has_header header_in messages_from messages_in message_spelling file_place file_past with_file setup_in challenge
    length_in element ends spelled start_fault type2_spelling byte_is spnego_named octets passed names_ntlm
    begins_with_ntlm names_in mech_types hints init_fields init_choice init_in init_spelling resp_spelling first_in begun_by
    is_unlisted second_of challenge_token shown
interim_told = refl

pub second_setup_asked : setup_text false 0 worked.second_token (dialog_sent 2 first_id) ≡ worked.second_setup
unfolding setup_text message_spelling bit_if number_of le bytes_at
second_setup_asked = refl

pub last_is_told : last_told ≡ worked.last_reply
unfolding reply_body bit_if message_spelling number_of le bytes_at signed signature sbox replaced mixed_columns
    block_sum round_key rounds after cipher constant word_change next_word expanded block_at chained cmac doubled_block
    first_subkey second_subkey last_block padded
last_is_told = refl
