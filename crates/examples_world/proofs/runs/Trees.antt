-- Related messages of a session, computed.
use Rattle.std.proofs.Common.{◌≡◌, [], ◌∷◌, refl}
use Rattle.std.specs.Char.Utf16.{utf16_chars}
use Rattle.std.specs.Str.{chars}
use lib.Utf8.{encode}
use Rattle.spec_exchange.specs.Commands.{has_bit}
use Rattle.spec_exchange.specs.Records.{text_size, opened_size, record_size, records_size, entry_bytes, fits}
use Rattle.spec_exchange.specs.Step.{due_in}
use Rattle.spec_exchange.specs.Table.{is_filled}
use Rattle.spec_exchange.specs.Texts.{leaf_from, leaf_of, upper, same_name}
use Rattle.spec_exchange.specs.Effects.{leave_all_records, tree_opens_in, without_tree}
use Rattle.spec_commands.specs.CommandOf.{command_of, message_of, tree_connect_in, tree_disconnect_in}
use Rattle.spec_commands.specs.ReplyBody.{reply_body}
use Rattle.spec_commands.specs.Tables.{bit_if}
use Rattle.spec_commands.specs.Text.{units_in, all_there, characters_in, text_in}
use Rattle.spec_commands.specs.BodyOf.{body_of}
use Rattle.spec_wire.specs.messages.Places.{number_of, le, bytes_at}
use Rattle.spec_wire.specs.messages.Fault.{part_fault, count_fault}
use Rattle.spec_wire.specs.messages.Chain.{is_badly_linked, piece}
use Rattle.spec_wire.specs.messages.Utf16.{utf16}
use Rattle.spec_world.specs.Answering.{said_body, gathered, texts_of, all_texts, concatenated, each_joined, told_each}
use Rattle.spec_world.specs.Connection.{went_all, last_status}
use Rattle.spec_world.specs.Hearing.{begins_sealed, checked_behind}
use Rattle.spec_world.specs.Logon.{token_in, exported, pending_by, answer_token_by}
use Rattle.spec_world.specs.Messages.{has_header, header_in, messages_from, messages_in, message_spelling}
use Rattle.spec_world.specs.Related.{file_place, file_past, with_file}
use Rattle.spec_crypto.specs.sessions.Signing.{signed, verifies, signature}
use Rattle.examples_world.specs.runs.Ends.{statuses_of}
use Rattle.examples_world.specs.runs.Keyed.{go_in_session, two_trees}

pub related_session : statuses_of (go_in_session (two_trees (100 ∷ []))).replies ≡ 0 ∷ 0 ∷ []
unfolding has_bit text_size opened_size record_size records_size entry_bytes fits due_in is_filled leaf_from leaf_of
    upper same_name leave_all_records tree_opens_in without_tree command_of message_of tree_connect_in tree_disconnect_in reply_body bit_if units_in
    all_there characters_in text_in body_of number_of le bytes_at part_fault count_fault is_badly_linked piece utf16
    said_body gathered texts_of all_texts concatenated each_joined told_each went_all last_status begins_sealed
    checked_behind token_in exported pending_by answer_token_by has_header header_in messages_from messages_in
    message_spelling file_place file_past with_file signed verifies signature chars utf16_chars encode
related_session = refl
