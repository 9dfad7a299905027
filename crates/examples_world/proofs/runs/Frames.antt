-- Frames of several messages, computed.
use Rattle.std.proofs.Common.{◌≡◌, [], ◌∷◌, false, Some, None, length, refl}
use Rattle.spec_wire.specs.credits.Ids.{ids_from}
use Rattle.spec_exchange.specs.Commands.{has_bit}
use Rattle.spec_exchange.specs.Records.{text_size, opened_size, record_size, records_size, entry_bytes, fits}
use Rattle.spec_exchange.specs.Step.{due_in}
use Rattle.spec_exchange.specs.Table.{is_filled}
use Rattle.spec_commands.specs.CommandOf.{command_of, message_of, setup_in}
use Rattle.spec_commands.specs.ReplyBody.{reply_body}
use Rattle.spec_commands.specs.Tables.{bit_if}
use Rattle.spec_wire.specs.messages.Places.{number_of, le, bytes_at}
use Rattle.spec_wire.specs.messages.Fault.{part_fault, count_fault}
use Rattle.spec_world.specs.Answering.{said_body, gathered, texts_of, all_texts, concatenated, each_joined, told_each}
use Rattle.spec_world.specs.Connection.{went_all, last_status}
use Rattle.spec_world.specs.Hearing.{begins_sealed, check_frame, checked_behind}
use Rattle.spec_world.specs.Logon.{token_in, exported, pending_by, answer_token_by}
use Rattle.spec_world.specs.Messages.{has_header, header_in, messages_from, messages_in, message_spelling}
use Rattle.spec_world.specs.Related.{file_place, file_past, with_file}
use Rattle.spec_crypto.specs.sessions.Signing.{signed, verifies, signature}
use Rattle.spec_world.specs.Ends.{OutsideWindow}
use Rattle.examples_world.specs.runs.Ends.{greeted_end, frame_step, echo, cancel, two_echoes, related_echoes, first_echo}
use Rattle.examples_world.specs.runs.Ends.{echo_header, faults_of, lone_setup, go_through, header_of, in_front_of, probe, statuses_of}
use Rattle.examples_world.specs.runs.Keyed.{keyed_end, signed_echo}

pub two_echoes_are :
    (length (frame_step greeted_end two_echoes).frames ≡ 1) × ((frame_step greeted_end two_echoes).status ≡ Some 0xc000_0022)
    × ((frame_step greeted_end two_echoes).server_end.window.held ≡ ids_from 3 8)
unfolding has_bit text_size opened_size record_size records_size entry_bytes fits due_in is_filled command_of message_of
    reply_body bit_if number_of le bytes_at part_fault count_fault said_body gathered texts_of all_texts concatenated
    each_joined told_each went_all last_status begins_sealed checked_behind token_in exported pending_by answer_token_by
    has_header header_in messages_from messages_in message_spelling file_place file_past with_file signed verifies
    signature
two_echoes_are = (refl, refl, refl)

pub id_taken_twice : (frame_step (frame_step greeted_end (echo 1 0)).server_end (echo 1 0)).ends ≡ Some (OutsideWindow 1)
unfolding has_bit text_size opened_size record_size records_size entry_bytes fits due_in is_filled command_of message_of
    reply_body bit_if number_of le bytes_at part_fault count_fault said_body gathered texts_of all_texts concatenated
    each_joined told_each went_all last_status begins_sealed checked_behind token_in exported pending_by answer_token_by
    has_header header_in messages_from messages_in message_spelling file_place file_past with_file signed verifies
    signature
id_taken_twice = refl

pub cancel_is :
    ((frame_step greeted_end (cancel 1)).frames ≡ []) × ((frame_step greeted_end (cancel 1)).ends ≡ None)
    × ((frame_step greeted_end (cancel 1)).server_end.window.held ≡ ids_from 1 8)
unfolding has_bit text_size opened_size record_size records_size entry_bytes fits due_in is_filled command_of message_of
    reply_body bit_if number_of le bytes_at part_fault count_fault said_body gathered texts_of all_texts concatenated
    each_joined told_each went_all last_status begins_sealed checked_behind token_in exported pending_by answer_token_by
    has_header header_in messages_from messages_in message_spelling file_place file_past with_file signed verifies
    signature
cancel_is = (refl, refl, refl)

pub related_are :
    (statuses_of (go_through (related_echoes None)).replies ≡ 0 ∷ 0 ∷ [])
    × (statuses_of (go_through (related_echoes (Some 0xc000_0022))).replies ≡ 0xc000_0022 ∷ 0 ∷ [])
unfolding has_bit text_size opened_size record_size records_size entry_bytes fits due_in is_filled command_of message_of
    reply_body bit_if number_of le bytes_at part_fault count_fault said_body gathered texts_of all_texts concatenated
    each_joined told_each went_all last_status begins_sealed checked_behind token_in exported pending_by answer_token_by
    has_header header_in messages_from messages_in message_spelling file_place file_past with_file signed verifies
    signature
related_are = (refl, refl)

pub first_are :
    (statuses_of (go_through (first_echo 0 None)).replies ≡ 0 ∷ [])
    × ((statuses_of (go_through (first_echo 4 None)).replies ≡ 0xc000_000d ∷ [])
    × (statuses_of (go_through (first_echo 4 (Some 0xc000_0022))).replies ≡ 0xc000_0022 ∷ []))
unfolding has_bit text_size opened_size record_size records_size entry_bytes fits due_in is_filled command_of message_of
    reply_body bit_if number_of le bytes_at part_fault count_fault said_body gathered texts_of all_texts concatenated
    each_joined told_each went_all last_status begins_sealed checked_behind token_in exported pending_by answer_token_by
    has_header header_in messages_from messages_in message_spelling file_place file_past with_file signed verifies
    signature
first_are = (refl, (refl, refl))

pub barred_are :
    (faults_of (check_frame greeted_end (in_front_of (header_of 1 1 0 0) (probe 2 0))) ≡ None ∷ Some 0xc000_0022 ∷ [])
    × (faults_of (check_frame (keyed_end false) (in_front_of (echo_header 2 0 0) signed_echo))
    ≡ Some 0xc000_0022 ∷ Some 0xc000_0022 ∷ [])
    × (faults_of (check_frame (keyed_end false) (in_front_of (header_of 12 2 0 0) signed_echo))
    ≡ Some 0xc000_0022 ∷ Some 0xc000_0022 ∷ [])
    × (faults_of (check_frame greeted_end (in_front_of (header_of 13 1 0 0) (probe 2 0))) ≡ None ∷ None ∷ [])
unfolding has_bit bit_if number_of le bytes_at begins_sealed checked_behind has_header header_in messages_from messages_in
    message_spelling
barred_are = (refl, refl, refl, refl)

pub setups_are :
    (statuses_of (go_through (lone_setup 4)).replies ≡ 0xc000_000d ∷ []) × (statuses_of (go_through (lone_setup 0)).replies ≡ 0xc000_0203 ∷ [])
unfolding has_bit text_size opened_size record_size records_size entry_bytes fits due_in is_filled command_of message_of setup_in
    reply_body bit_if number_of le bytes_at part_fault count_fault said_body went_all token_in exported pending_by answer_token_by
    message_spelling file_place file_past with_file
setups_are = (refl, refl)
