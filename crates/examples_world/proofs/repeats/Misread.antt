-- Computed.
use Rattle.std.proofs.Common.{◌≡◌, [], ◌∷◌, true, false, refl}
use Rattle.std.specs.Char.Utf16.{utf16_chars}
use Rattle.std.specs.Str.{chars}
use Rattle.spec_exchange.specs.Operations.{Unsettled}
use Rattle.spec_hostile.specs.RepeatRuns.{Give, is_heard}
use Rattle.examples_world.specs.repeats.Linked.{given, outcome_in}
use Rattle.spec_wire.specs.messages.Chain.{is_badly_linked, piece}
use Rattle.spec_wire.specs.messages.Classes.{is_directory_class, is_query_class, is_set_class, class_fault}
use Rattle.spec_wire.specs.messages.Contexts.{contexts_end, with_contexts, contexts_fault}
use Rattle.spec_wire.specs.messages.Contexts as spec_wire_messages_contexts
use Rattle.spec_wire.specs.messages.CreateContexts.{is_outside, length_fault, context_fault, first_fault, is_named}
use Rattle.spec_wire.specs.messages.CreateContexts.{is_persistent, flags_of, request_due, reply_due}
use Rattle.spec_wire.specs.messages.Fault.{part_fault, count_fault}
use Rattle.spec_wire.specs.messages.Offer.{ids_at, all_fit, first_of, has_id, doubled}
use Rattle.spec_wire.specs.messages.Places.{number_of, le, bytes_at}
use Rattle.spec_wire.specs.messages.Utf16.{utf16}
use Rattle.spec_crypto.specs.ciphers.Aes.{replaced, mixed_columns, block_sum, round_key, rounds}
use Rattle.spec_crypto.specs.ciphers.Aes.{after, cipher, constant, word_change, next_word}
use Rattle.spec_crypto.specs.ciphers.Aes.{expanded}
use Rattle.spec_crypto.specs.ciphers.Blocks.{block_at, chained, stream_byte}
use Rattle.spec_crypto.specs.ciphers.Blocks as spec_crypto_ciphers_blocks
use Rattle.spec_crypto.specs.ciphers.Cmac.{doubled_block, first_subkey, second_subkey, last_block, cmac}
use Rattle.spec_crypto.specs.ciphers.Cmac as spec_crypto_ciphers_cmac
use Rattle.spec_crypto.specs.ciphers.Field.{sbox}
use Rattle.spec_crypto.specs.sessions.Choice.{cipher_of, signing_of}
use Rattle.spec_crypto.specs.sessions.Nonces.{nonce_of}
use Rattle.spec_crypto.specs.sessions.Signing.{signature, signed, verifies}
use Rattle.spec_exchange.specs.CheckCreate.{found_names, missing_names, found_attributes, missing_attributes, names_of_found}
use Rattle.spec_exchange.specs.CheckCreate.{names, is_counted_out}
use Rattle.spec_exchange.specs.CheckOpen.{open_below, target_refused, rename_names, delete_names, basic_names}
use Rattle.spec_exchange.specs.CheckOpen.{listing_of}
use Rattle.spec_exchange.specs.CheckSetup.{count_channels}
use Rattle.spec_exchange.specs.Client.{waits, has_free, settle_no_slots}
use Rattle.spec_exchange.specs.ClientStep.{some_unsettled}
use Rattle.spec_exchange.specs.Commands.{has_bit, deletes_on_close, path_form}
use Rattle.spec_exchange.specs.Content.{is_empty, written, ended, effect, value}
use Rattle.spec_exchange.specs.Content.{past_end, is_change, touches, is_listed, meets}
use Rattle.spec_exchange.specs.Content.{collides, same_bytes}
use Rattle.spec_exchange.specs.Content as spec_exchange_content
use Rattle.spec_exchange.specs.Effects.{timeout_of, new_open, create_records, lock_records, change_records}
use Rattle.spec_exchange.specs.Effects.{is_touched_at, plain_in, leave_all, leave_all_records, staying_in}
use Rattle.spec_exchange.specs.Effects.{ranges_staying, end_records, without_tree, tree_opens_in, keep_all_closed}
use Rattle.spec_exchange.specs.Files.{find_in, find, path_in, path_of, exists_in}
use Rattle.spec_exchange.specs.Files.{exists, is_directory, is_found_directory, has_parent, is_found_pending}
use Rattle.spec_exchange.specs.Files.{has_pending_parent, has_below, is_full_directory, is_read_only, info_of}
use Rattle.spec_exchange.specs.Files.{sizes, used, passes_room, times_at, touched}
use Rattle.spec_exchange.specs.Files.{file_attributes, directory_attributes, set_attributes, may_set_attributes, set_time}
use Rattle.spec_exchange.specs.Files.{may_set_time, may_set_times, set_basic, emptied_basic, without_file}
use Rattle.spec_exchange.specs.Files.{path_behind, moved_path, moved_entry, moved_entries, without_target}
use Rattle.spec_exchange.specs.Files.{same_basic, allocated}
use Rattle.spec_exchange.specs.Fold.{sweep, may_make, may_restore, may_have_open, may_create}
use Rattle.spec_exchange.specs.Fold.{is_file, same_target, may_replace, may_rename, may_remove}
use Rattle.spec_exchange.specs.Fold.{fold_from, is_left_pending, mark_records, unmark_records, persistent_in}
use Rattle.spec_exchange.specs.Fold.{ranges_that_stay}
use Rattle.spec_exchange.specs.Network.{run}
use Rattle.spec_exchange.specs.Opens.{bits_if, mapped, mapped_read_only, granted, reads}
use Rattle.spec_exchange.specs.Opens.{writes, deletes, is_shared, denies_writers, opens_in}
use Rattle.spec_exchange.specs.Opens.{admits, file_has_open, goes, is_kept_back, pending_records}
use Rattle.spec_exchange.specs.Opens.{shut_records, gone_records, left_file_records, leave_records}
use Rattle.spec_exchange.specs.Operations.{are_below, is_text, is_spelled_path, names_in}
use Rattle.spec_exchange.specs.Ranges.{overlaps, is_denied, any_wraps, count_owned, add_ranges}
use Rattle.spec_exchange.specs.Ranges.{prepended, take_range, take_ranges, stands_or, lock_ranges}
use Rattle.spec_exchange.specs.Ranges.{unlock_ranges, change_ranges, without_owner, may_read, may_write}
use Rattle.spec_exchange.specs.Records.{text_size, opened_size, record_size, records_size, entry_bytes}
use Rattle.spec_exchange.specs.Records.{fits}
use Rattle.spec_exchange.specs.Runs.{acts}
use Rattle.spec_exchange.specs.Step.{take_all_out, take_all_records, take_all_acts, due_in, expire_records}
use Rattle.spec_exchange.specs.Table.{is_filled}
use Rattle.spec_exchange.specs.Texts.{upper, same_name, name_before, units_of, utf16_length}
use Rattle.spec_exchange.specs.Texts.{parent_from, parent_of, leaf_from, leaf_of, after_name}
use Rattle.spec_exchange.specs.Texts.{begins_below, is_below, is_plain, is_component, components_from}
use Rattle.spec_exchange.specs.Texts.{is_path, begins_with_backslash}
use Rattle.spec_commands.specs.BodyOf.{body_of}
use Rattle.spec_commands.specs.Clashes.{has_named, has_twice, clash_in}
use Rattle.spec_commands.specs.CommandOf.{elements_in, setup_in, logoff_in, tree_connect_in, tree_disconnect_in}
use Rattle.spec_commands.specs.CommandOf.{create_in, close_in, flush_in, read_in, write_in}
use Rattle.spec_commands.specs.CommandOf.{lock_in, ioctl_in, list_in, query_in, set_in}
use Rattle.spec_commands.specs.CommandOf.{command_of, message_of}
use Rattle.spec_commands.specs.CommandOf as spec_commands_commandof
use Rattle.spec_commands.specs.Ids.{file_of, file_id, file_kept, object_id, guid_of, guid_id}
use Rattle.spec_commands.specs.Infos.{allocation, without_bit, attributes_of, short_bytes, file_bytes}
use Rattle.spec_commands.specs.Infos.{volume_bytes, listing_bytes, interface_bytes, object_id_bytes}
use Rattle.spec_commands.specs.ReplyBody.{reply_body}
use Rattle.spec_commands.specs.ReplyOf.{names_of, listing_in, file_in, body_in, reply_of}
use Rattle.spec_commands.specs.Tables.{directory_class, bit_if}
use Rattle.spec_commands.specs.Text.{units_in, all_there, characters_in, text_in}
use Rattle.spec_world.specs.Answering.{said_body, gathered, texts_of, all_texts, concatenated}
use Rattle.spec_world.specs.Answering.{each_joined, sealed_each, seals_of, told_each}
use Rattle.spec_world.specs.Connection.{went_all, last_status}
use Rattle.spec_world.specs.Dialog.{has_contexts, hashes_told, ciphers_told, signings_told, choice_fault}
use Rattle.spec_world.specs.Dialog.{chosen_told, is_hint, setup_token, setup_flags, seals_told}
use Rattle.spec_world.specs.Events.{bytes_run}
use Rattle.spec_world.specs.Events as spec_world_events
use Rattle.spec_world.specs.Hearing.{begins_sealed, checked_behind}
use Rattle.spec_world.specs.Logon.{token_in, exported, pending_by, answer_token_by}
use Rattle.spec_world.specs.Messages.{has_header, header_in, messages_from, messages_in, message_spelling}
use Rattle.spec_world.specs.Negotiate.{has_dialect, negotiate_status, negotiated, client_told, negotiate_response_body}
use Rattle.spec_world.specs.Negotiate.{negotiate_request_body}
use Rattle.spec_world.specs.Related.{file_place, with_file, file_past}
use Rattle.spec_world.specs.Sending.{request_text, greeting_text, setup_text, answer_of}
use Rattle.spec_world.specs.Settings.{draw, logon_of}
use Rattle.spec_world.specs.Statements.{plainly, value_events}
use Rattle.spec_world.specs.World.{replied_each}
use Rattle.spec_hostile.specs.HostileNetwork.{is_own_send, repeat_acts, own_events}
use Rattle.spec_hostile.specs.RepeatRuns.{puts_up, puts_down, sents, up_frames, receiveds}
use Rattle.spec_hostile.specs.RepeatRuns.{down_frames, repeat_run}
use Rattle.spec_hostile.specs.SignedFor.{entries_up, entries_said, noted_each, watched_run}

pub misread_computed :
    (is_heard (given (Give 1 true 0 ∷ Give 1 false 0 ∷ [])).world 1 ≡ false)
    × (outcome_in (given (Give 1 true 0 ∷ Give 1 false 0 ∷ [])) 2 ≡ Unsettled)
unfolding is_own_send is_badly_linked piece is_directory_class is_query_class is_set_class class_fault contexts_end
    with_contexts contexts_fault spec_wire_messages_contexts.contexts_in is_outside length_fault context_fault
    first_fault is_named is_persistent flags_of request_due reply_due part_fault count_fault ids_at all_fit
    first_of has_id doubled number_of le bytes_at utf16 replaced mixed_columns block_sum round_key rounds after
    cipher constant word_change next_word expanded block_at chained stream_byte
    spec_crypto_ciphers_blocks.masked doubled_block first_subkey second_subkey last_block cmac
    spec_crypto_ciphers_cmac.padded sbox cipher_of signing_of nonce_of signature signed verifies found_names
    missing_names found_attributes missing_attributes names_of_found names is_counted_out open_below
    target_refused rename_names delete_names basic_names listing_of count_channels waits has_free
    settle_no_slots some_unsettled has_bit deletes_on_close path_form is_empty written ended effect value
    past_end is_change touches is_listed meets collides same_bytes spec_exchange_content.padded timeout_of
    new_open create_records lock_records change_records is_touched_at plain_in leave_all leave_all_records
    staying_in ranges_staying end_records without_tree tree_opens_in keep_all_closed find_in find path_in
    path_of exists_in exists is_directory is_found_directory has_parent is_found_pending has_pending_parent
    has_below is_full_directory is_read_only info_of sizes used passes_room times_at touched file_attributes
    directory_attributes set_attributes may_set_attributes set_time may_set_time may_set_times set_basic
    emptied_basic without_file path_behind moved_path moved_entry moved_entries without_target same_basic
    allocated sweep may_make may_restore may_have_open may_create is_file same_target may_replace may_rename
    may_remove fold_from is_left_pending mark_records unmark_records persistent_in ranges_that_stay run bits_if
    mapped mapped_read_only granted reads writes deletes is_shared denies_writers opens_in admits file_has_open
    goes is_kept_back pending_records shut_records gone_records left_file_records leave_records are_below
    is_text is_spelled_path names_in overlaps is_denied any_wraps count_owned add_ranges prepended take_range
    take_ranges stands_or lock_ranges unlock_ranges change_ranges without_owner may_read may_write text_size
    opened_size record_size records_size entry_bytes fits acts take_all_out take_all_records take_all_acts
    due_in expire_records is_filled upper same_name name_before units_of utf16_length parent_from parent_of
    leaf_from leaf_of after_name begins_below is_below is_plain is_component components_from is_path
    begins_with_backslash body_of has_named has_twice clash_in elements_in setup_in logoff_in tree_connect_in
    tree_disconnect_in create_in close_in flush_in read_in write_in lock_in ioctl_in list_in query_in set_in
    command_of message_of spec_commands_commandof.contexts_in file_of file_id file_kept object_id guid_of guid_id
    allocation without_bit attributes_of short_bytes file_bytes volume_bytes listing_bytes interface_bytes
    object_id_bytes reply_body names_of listing_in file_in body_in reply_of directory_class bit_if units_in
    all_there characters_in text_in said_body gathered texts_of all_texts concatenated each_joined sealed_each
    seals_of told_each went_all last_status has_contexts hashes_told ciphers_told signings_told choice_fault
    chosen_told is_hint setup_token setup_flags seals_told bytes_run spec_world_events.masked begins_sealed
    checked_behind token_in exported pending_by answer_token_by has_header header_in messages_from messages_in
    message_spelling has_dialect negotiate_status negotiated client_told negotiate_response_body
    negotiate_request_body file_place with_file file_past request_text greeting_text setup_text answer_of draw
    logon_of plainly value_events replied_each repeat_acts own_events puts_up puts_down sents up_frames
    receiveds down_frames repeat_run entries_up entries_said noted_each watched_run chars utf16_chars
misread_computed = (refl, refl)
