-- Frames that open a file and close it, computed.
use Rattle.std.proofs.Common.{◌≡◌, [], ◌∷◌, Some, None, refl}
use Rattle.std.specs.Char.Utf16.{utf16_chars}
use Rattle.std.specs.Str.{chars, is_utf8}
use lib.Utf8.{encode}
use Rattle.spec_exchange.specs.CheckCreate.{found_names, missing_names, names_of_found, names, is_counted_out}
use Rattle.spec_exchange.specs.CheckCreate.{found_attributes, missing_attributes}
use Rattle.spec_exchange.specs.Commands.{has_bit, deletes_on_close, path_form}
use Rattle.spec_exchange.specs.Content.{same_bytes}
use Rattle.spec_exchange.specs.Effects.{timeout_of, new_open, create_records}
use Rattle.spec_exchange.specs.Files.{find_in, find, path_in, path_of, exists_in, exists, is_directory}
use Rattle.spec_exchange.specs.Files.{is_found_directory, has_parent, has_below, is_full_directory, info_of, sizes}
use Rattle.spec_exchange.specs.Files.{used, passes_room, times_at, touched, emptied_basic, without_file, allocated}
use Rattle.spec_exchange.specs.Files.{is_read_only, file_attributes, directory_attributes}
use Rattle.spec_exchange.specs.Listing.{file_info_size, is_short_class, streams_size}
use Rattle.spec_exchange.specs.Opens.{bits_if, mapped, reads, writes, deletes, is_shared, denies_writers, opens_in}
use Rattle.spec_exchange.specs.Opens.{admits, file_has_open, goes, pending_records, shut_records, gone_records}
use Rattle.spec_exchange.specs.Opens.{leave_records, mapped_read_only, granted, is_kept_back, left_file_records}
use Rattle.spec_exchange.specs.Files.{is_found_pending, has_pending_parent}
use Rattle.spec_exchange.specs.Ranges.{without_owner}
use Rattle.spec_exchange.specs.Records.{text_size, opened_size, record_size, records_size, entry_bytes, fits}
use Rattle.spec_exchange.specs.Step.{due_in}
use Rattle.spec_exchange.specs.Table.{is_filled}
use Rattle.spec_exchange.specs.Texts.{upper, same_name, name_before, units_of, utf16_length, parent_from, parent_of}
use Rattle.spec_exchange.specs.Texts.{leaf_from, leaf_of, after_name, begins_below, is_below, is_plain, is_component}
use Rattle.spec_exchange.specs.Texts.{components_from, is_path, begins_with_backslash}
use Rattle.spec_world.specs.Answering.{said_body}
use Rattle.spec_world.specs.Connection.{went_all}
use Rattle.spec_world.specs.Logon.{token_in, exported, pending_by, answer_token_by}
use Rattle.spec_world.specs.Messages.{message_spelling}
use Rattle.spec_world.specs.Related.{file_place, file_past, with_file}
use Rattle.examples_world.specs.commands.Computed.{computed}
use Rattle.examples_world.specs.runs.Ends.{statuses_of}
use Rattle.examples_world.specs.runs.Opened.{on_a_tree, made_and_closed, refused_and_closed, refused_and_apart}
use Rattle.examples_world.specs.runs.Opened.{misplaced_create, on_no_session, signers_of, with_between}
use Rattle.examples_world.specs.connections.Parts.{some_keys}

pub closed_are :
    (statuses_of (on_a_tree made_and_closed).replies ≡ 0 ∷ 0xc000_0003 ∷ 0 ∷ []) × ((on_a_tree made_and_closed).server.opens ≡ [])
unfolding computed is_kept_back left_file_records is_found_pending has_pending_parent found_names missing_names found_attributes
    missing_attributes names_of_found names is_counted_out has_bit deletes_on_close path_form same_bytes timeout_of
    new_open create_records find_in find path_in path_of exists_in exists is_directory is_found_directory has_parent has_below
    is_full_directory info_of sizes used passes_room times_at touched emptied_basic without_file allocated is_read_only file_attributes directory_attributes is_short_class streams_size file_info_size
    bits_if mapped mapped_read_only granted reads writes deletes is_shared denies_writers opens_in admits file_has_open goes pending_records
    shut_records gone_records leave_records without_owner text_size opened_size record_size records_size entry_bytes fits
    due_in is_filled upper same_name name_before units_of utf16_length parent_from parent_of leaf_from leaf_of after_name
    begins_below is_below is_plain is_component components_from is_path begins_with_backslash said_body went_all token_in
    exported pending_by answer_token_by message_spelling file_place file_past with_file chars is_utf8 utf16_chars encode
closed_are = (refl, refl)

pub refused_are :
    (statuses_of (on_a_tree refused_and_closed).replies ≡ 0xc000_0022 ∷ 0 ∷ 0xc000_0022 ∷ [])
    × (statuses_of (on_a_tree refused_and_apart).replies ≡ 0xc000_0022 ∷ 0xc000_0128 ∷ 0xc000_0128 ∷ [])
unfolding computed is_counted_out has_bit text_size opened_size record_size records_size entry_bytes fits due_in is_filled
    said_body went_all token_in exported pending_by answer_token_by message_spelling file_place file_past with_file chars
    utf16_chars encode
refused_are = (refl, refl)

pub between_are :
    (statuses_of (on_a_tree (with_between 13)).replies ≡ 0 ∷ 0 ∷ 0 ∷ []) × ((on_a_tree (with_between 13)).server.opens ≡ [])
    × (statuses_of (on_a_tree (with_between 12)).replies ≡ 0 ∷ 0 ∷ []) × ((on_a_tree (with_between 12)).server.opens ≡ [])
    × (statuses_of (on_a_tree (with_between 15)).replies ≡ 0 ∷ 0xc000_00bb ∷ 0 ∷ []) × ((on_a_tree (with_between 15)).server.opens ≡ [])
unfolding computed is_kept_back left_file_records is_found_pending has_pending_parent found_names missing_names found_attributes
    missing_attributes names_of_found names is_counted_out has_bit deletes_on_close path_form same_bytes timeout_of
    new_open create_records find_in find path_in path_of exists_in exists is_directory is_found_directory has_parent has_below
    is_full_directory info_of sizes used passes_room times_at touched emptied_basic without_file allocated is_read_only file_attributes directory_attributes is_short_class streams_size file_info_size
    bits_if mapped mapped_read_only granted reads writes deletes is_shared denies_writers opens_in admits file_has_open goes pending_records
    shut_records gone_records leave_records without_owner text_size opened_size record_size records_size entry_bytes fits
    due_in is_filled upper same_name name_before units_of utf16_length parent_from parent_of leaf_from leaf_of after_name
    begins_below is_below is_plain is_component components_from is_path begins_with_backslash said_body went_all token_in
    exported pending_by answer_token_by message_spelling file_place file_past with_file chars is_utf8 utf16_chars encode
between_are = (refl, refl, refl, refl, refl, refl)

pub misplaced_is : statuses_of (on_a_tree misplaced_create).replies ≡ 0xc000_000d ∷ []
unfolding computed is_kept_back left_file_records is_found_pending has_pending_parent found_names missing_names found_attributes
    missing_attributes names_of_found names is_counted_out has_bit deletes_on_close path_form same_bytes timeout_of
    new_open create_records find_in find path_in path_of exists_in exists is_directory is_found_directory has_parent has_below
    is_full_directory info_of sizes used passes_room times_at touched emptied_basic without_file allocated is_read_only file_attributes directory_attributes is_short_class streams_size file_info_size
    bits_if mapped mapped_read_only granted reads writes deletes is_shared denies_writers opens_in admits file_has_open goes pending_records
    shut_records gone_records leave_records without_owner text_size opened_size record_size records_size entry_bytes fits
    due_in is_filled upper same_name name_before units_of utf16_length parent_from parent_of leaf_from leaf_of after_name
    begins_below is_below is_plain is_component components_from is_path begins_with_backslash said_body went_all token_in
    exported pending_by answer_token_by message_spelling file_place file_past with_file chars is_utf8 utf16_chars encode
misplaced_is = refl

pub signers_are :
    (signers_of (on_no_session (Some 0xc000_0022)).replies ≡ None ∷ None ∷ [])
    × (signers_of (on_no_session None).replies ≡ Some some_keys.signing ∷ Some some_keys.signing ∷ [])
unfolding computed is_kept_back left_file_records is_found_pending has_pending_parent found_names missing_names found_attributes
    missing_attributes names_of_found names is_counted_out has_bit deletes_on_close path_form same_bytes timeout_of
    new_open create_records find_in find path_in path_of exists_in exists is_directory is_found_directory has_parent has_below
    is_full_directory info_of sizes used passes_room times_at touched emptied_basic without_file allocated is_read_only file_attributes directory_attributes is_short_class streams_size file_info_size
    bits_if mapped mapped_read_only granted reads writes deletes is_shared denies_writers opens_in admits file_has_open goes pending_records
    shut_records gone_records leave_records without_owner text_size opened_size record_size records_size entry_bytes fits
    due_in is_filled upper same_name name_before units_of utf16_length parent_from parent_of leaf_from leaf_of after_name
    begins_below is_below is_plain is_component components_from is_path begins_with_backslash said_body went_all token_in
    exported pending_by answer_token_by message_spelling file_place file_past with_file chars is_utf8 utf16_chars encode
signers_are = (refl, refl)
