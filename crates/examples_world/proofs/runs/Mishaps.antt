-- Frames whose events went otherwise than by the step alone, computed.
use Rattle.std.proofs.Common.{◌≡◌, [], ◌∷◌, true, false, Some, None, refl}
use Rattle.spec_exchange.specs.Commands.{has_bit}
use Rattle.spec_exchange.specs.Records.{text_size, opened_size, record_size, records_size, entry_bytes, fits}
use Rattle.spec_exchange.specs.Step.{due_in}
use Rattle.spec_exchange.specs.Table.{is_filled}
use Rattle.spec_exchange.specs.CheckSetup.{count_channels}
use Rattle.spec_commands.specs.CommandOf.{command_of, message_of, tree_disconnect_in, setup_in}
use Rattle.spec_commands.specs.ReplyBody.{reply_body}
use Rattle.spec_commands.specs.Tables.{bit_if}
use Rattle.spec_wire.specs.messages.Places.{number_of, le, bytes_at}
use Rattle.spec_wire.specs.messages.Fault.{part_fault, count_fault}
use Rattle.spec_world.specs.Answering.{said_body, gathered, texts_of, all_texts, concatenated, each_joined, told_each}
use Rattle.spec_world.specs.Connection.{went_all, last_status}
use Rattle.spec_world.specs.Hearing.{begins_sealed, checked_behind}
use Rattle.spec_world.specs.Logon.{token_in, exported, pending_by, answer_token_by}
use Rattle.spec_world.specs.Messages.{has_header, header_in, messages_from, messages_in, message_spelling}
use Rattle.spec_world.specs.Related.{file_place, file_past, with_file}
use Rattle.spec_world.specs.Given.{dealt_all}
use Rattle.spec_world.specs.Mishaps.{owned_all}
use Rattle.spec_crypto.specs.sessions.Signing.{signed, verifies, signature}
use Rattle.spec_world.specs.Ends.{Stopped}
use Rattle.examples_world.specs.runs.Ends.{greeted_end, frame_step}
use Rattle.examples_world.specs.runs.Events.{two_disconnects, with_mishaps, lacks, halts, setup_behind}

pub no_mishap :
    ((with_mishaps (None ∷ None ∷ [])).step.frames ≡ (frame_step greeted_end two_disconnects).frames)
    × ((with_mishaps (None ∷ None ∷ [])).matches ≡ true) × ((with_mishaps (None ∷ None ∷ [])).lacked ≡ false)
unfolding has_bit text_size opened_size record_size records_size entry_bytes fits due_in is_filled count_channels
    command_of message_of tree_disconnect_in setup_in reply_body bit_if number_of le bytes_at part_fault count_fault
    said_body gathered texts_of all_texts concatenated each_joined told_each went_all last_status begins_sealed
    checked_behind token_in exported pending_by answer_token_by has_header header_in messages_from messages_in
    message_spelling file_place file_past with_file dealt_all owned_all signed verifies signature
no_mishap = (refl, refl, refl)

pub no_memory :
    ((with_mishaps (None ∷ lacks ∷ [])).step.status ≡ Some 0xc000_0017)
    × ((with_mishaps (lacks ∷ None ∷ [])).step.status ≡ Some 0xc000_0203)
    × ((with_mishaps (lacks ∷ None ∷ [])).lacked ≡ true)
unfolding has_bit text_size opened_size record_size records_size entry_bytes fits due_in is_filled count_channels
    command_of message_of tree_disconnect_in setup_in reply_body bit_if number_of le bytes_at part_fault count_fault
    said_body gathered texts_of all_texts concatenated each_joined told_each went_all last_status begins_sealed
    checked_behind token_in exported pending_by answer_token_by has_header header_in messages_from messages_in
    message_spelling file_place file_past with_file dealt_all owned_all signed verifies signature
no_memory = (refl, refl, refl)

pub stopped :
    ((with_mishaps (halts ∷ [])).step.ends ≡ Some (Stopped 3)) × ((with_mishaps (halts ∷ [])).step.frames ≡ [])
    × ((with_mishaps (halts ∷ [])).matches ≡ true)
unfolding has_bit text_size opened_size record_size records_size entry_bytes fits due_in is_filled count_channels
    command_of message_of tree_disconnect_in setup_in reply_body bit_if number_of le bytes_at part_fault count_fault
    said_body gathered texts_of all_texts concatenated each_joined told_each went_all last_status begins_sealed
    checked_behind token_in exported pending_by answer_token_by has_header header_in messages_from messages_in
    message_spelling file_place file_past with_file dealt_all owned_all signed verifies signature
stopped = (refl, refl, refl)

pub given :
    ((with_mishaps (None ∷ [])).matches ≡ false) × ((with_mishaps (None ∷ None ∷ None ∷ [])).matches ≡ false)
    × ((with_mishaps (halts ∷ None ∷ [])).matches ≡ false)
unfolding has_bit text_size opened_size record_size records_size entry_bytes fits due_in is_filled count_channels
    command_of message_of tree_disconnect_in setup_in reply_body bit_if number_of le bytes_at part_fault count_fault
    said_body gathered texts_of all_texts concatenated each_joined told_each went_all last_status begins_sealed
    checked_behind token_in exported pending_by answer_token_by has_header header_in messages_from messages_in
    message_spelling file_place file_past with_file dealt_all owned_all signed verifies signature
given = (refl, refl, refl)

pub setups :
    ((setup_behind 4095 []).matches ≡ false) × ((setup_behind 4096 []).matches ≡ true)
    × ((setup_behind 4096 []).step.status ≡ Some 0xc000_009a) × ((setup_behind 4096 []).setups ≡ 4096)
unfolding has_bit text_size opened_size record_size records_size entry_bytes fits due_in is_filled count_channels
    command_of message_of tree_disconnect_in setup_in reply_body bit_if number_of le bytes_at part_fault count_fault
    said_body gathered texts_of all_texts concatenated each_joined told_each went_all last_status begins_sealed
    checked_behind token_in exported pending_by answer_token_by has_header header_in messages_from messages_in
    message_spelling file_place file_past with_file dealt_all owned_all signed verifies signature
setups = (refl, refl, refl, refl)
