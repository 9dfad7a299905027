-- The definitions that the examples compute: where `computed` is opened, so is each that its `unfolding` line names.
use Rattle.std.specs.Prelude.{ℕ}
use Rattle.std.specs.Str.{is_utf8, chars}
use Rattle.spec_exchange.specs.CheckCreate.{found_names, missing_names, names_of_found, names, is_counted_out}
use Rattle.spec_exchange.specs.CheckCreate.{found_attributes, missing_attributes}
use Rattle.spec_exchange.specs.CheckOpen.{open_below, target_refused, rename_names, delete_names, listing_of}
use Rattle.spec_exchange.specs.CheckOpen.{basic_names}
use Rattle.spec_exchange.specs.CheckSetup.{count_channels}
use Rattle.spec_exchange.specs.Client.{waits, has_free, settle_no_slots}
use Rattle.spec_exchange.specs.ClientStep.{some_unsettled}
use Rattle.spec_exchange.specs.Commands.{has_bit, deletes_on_close, path_form}
use Rattle.spec_exchange.specs.Content.{padded, is_empty, written, ended, effect, value, past_end, is_change, touches}
use Rattle.spec_exchange.specs.Content.{is_listed, meets, collides, same_bytes}
use Rattle.spec_exchange.specs.Effects.{timeout_of, new_open, create_records, lock_records, change_records}
use Rattle.spec_exchange.specs.Effects.{is_touched_at, plain_in, leave_all, staying_in, ranges_staying}
use Rattle.spec_exchange.specs.Effects.{leave_all_records, end_records, without_tree}
use Rattle.spec_exchange.specs.Files.{find_in, find, path_in, path_of, exists_in, exists, is_directory}
use Rattle.spec_exchange.specs.Files.{is_found_directory, has_parent, has_below, is_full_directory, info_of, sizes}
use Rattle.spec_exchange.specs.Files.{used, passes_room, times_at, touched, set_time, set_basic, emptied_basic}
use Rattle.spec_exchange.specs.Files.{without_file, path_behind, moved_path, moved_entry, moved_entries, without_target}
use Rattle.spec_exchange.specs.Files.{same_basic, allocated}
use Rattle.spec_exchange.specs.Files.{is_read_only, file_attributes, directory_attributes, set_attributes, may_set_attributes, may_set_time, may_set_times}
use Rattle.spec_exchange.specs.Fold.{sweep, may_make, may_restore, may_have_open, may_create, is_file, same_target}
use Rattle.spec_exchange.specs.Fold.{may_replace, may_rename, may_remove, fold_from, persistent_in, ranges_that_stay}
use Rattle.spec_exchange.specs.Listing.{any_tail, after_character, one_character, one_byte, matches, accepts, rank}
use Rattle.spec_exchange.specs.Listing.{listed_before, insert_named, children, parent_file, all_named, is_behind}
use Rattle.spec_exchange.specs.Listing.{wanted, entry_part, entry_size, next_multiple, fitting, first_of_them}
use Rattle.spec_exchange.specs.Listing.{one_or_all, last_name, is_short_class, streams_size, file_info_size}
use Rattle.spec_exchange.specs.Listing.{volume_info_size}
use Rattle.spec_exchange.specs.Network.{run}
use Rattle.spec_exchange.specs.Opens.{bits_if, mapped, reads, writes, deletes, is_shared, denies_writers, opens_in}
use Rattle.spec_exchange.specs.Opens.{admits, file_has_open, goes, pending_records, shut_records, gone_records}
use Rattle.spec_exchange.specs.Opens.{leave_records, mapped_read_only, granted, is_kept_back, left_file_records}
use Rattle.spec_exchange.specs.Fold.{is_left_pending, mark_records, unmark_records}
use Rattle.spec_exchange.specs.Files.{is_found_pending, has_pending_parent}
use Rattle.spec_exchange.specs.Operations.{names_in, are_below, is_text, is_spelled_path}
use Rattle.spec_exchange.specs.Order.{order_from, Replays, count, precedes}
use Rattle.spec_exchange.specs.Ranges.{overlaps, is_denied, any_wraps, count_owned, add_ranges, prepended, take_range}
use Rattle.spec_exchange.specs.Ranges.{take_ranges, stands_or, lock_ranges, unlock_ranges, change_ranges, without_owner}
use Rattle.spec_exchange.specs.Ranges.{may_read, may_write}
use Rattle.spec_exchange.specs.Records.{text_size, opened_size, record_size, records_size, entry_bytes, fits}
use Rattle.spec_exchange.specs.Runs.{acts}
use Rattle.spec_exchange.specs.Schedules.{least_free, paid_on, choose, went, went_push, both_open, is_linking, linking}
use Rattle.spec_exchange.specs.Schedules.{link, serve_all, take_all, served_all, taken_all, has_more, drain, is_talking}
use Rattle.spec_exchange.specs.Schedules.{hangs, is_orphan, went_if, last_refusal, finished_by, finished_after}
use Rattle.spec_exchange.specs.Schedules.{drain_and_cut, each, drop_orphan, tidy, least, is_apart, linked, pushed_round}
use Rattle.spec_exchange.specs.Schedules.{ready_round, rounds, settle_below, go, course}
use Rattle.spec_exchange.specs.Step.{take_all_out, take_all_records, take_all_acts, due_in, expire_records}
use Rattle.spec_exchange.specs.Table.{is_filled}
use Rattle.spec_exchange.specs.Texts.{upper, same_name, name_before, units_of, utf16_length}
use Rattle.spec_exchange.specs.Texts.{parent_from, parent_of, leaf_from, leaf_of, after_name, begins_below, is_below}
use Rattle.spec_exchange.specs.Texts.{is_plain, is_component, components_from, is_path, begins_with_backslash}
use Rattle.law_outcomes.specs.scripts.Scripts.{is_quiet_script, has_given_up}

unfoldable pub computed : ℕ
unfolding is_kept_back left_file_records is_left_pending mark_records unmark_records is_found_pending has_pending_parent
    found_names missing_names found_attributes missing_attributes names_of_found names is_counted_out open_below target_refused rename_names
    delete_names basic_names listing_of count_channels waits has_free settle_no_slots has_bit deletes_on_close path_form padded
    is_empty written ended effect value past_end is_change touches is_listed meets collides same_bytes timeout_of
    new_open create_records lock_records change_records is_touched_at plain_in leave_all staying_in ranges_staying
    leave_all_records end_records without_tree find_in find path_in path_of exists_in exists is_directory
    is_found_directory has_parent has_below is_full_directory info_of sizes used passes_room times_at touched set_time
    set_basic emptied_basic without_file path_behind moved_path moved_entry moved_entries without_target same_basic
    allocated is_read_only file_attributes directory_attributes set_attributes may_set_attributes may_set_time
    may_set_times sweep may_make may_restore may_have_open may_create is_file same_target may_replace may_rename may_remove
    fold_from persistent_in ranges_that_stay any_tail after_character one_character one_byte matches accepts rank
    listed_before insert_named children parent_file all_named is_behind wanted entry_part entry_size next_multiple
    fitting first_of_them one_or_all last_name is_short_class streams_size file_info_size volume_info_size run bits_if mapped mapped_read_only granted reads writes deletes
    is_shared denies_writers opens_in admits file_has_open goes pending_records shut_records gone_records leave_records
    names_in are_below is_text is_spelled_path is_utf8 chars order_from Replays count precedes overlaps is_denied
    any_wraps count_owned add_ranges prepended take_range take_ranges stands_or lock_ranges unlock_ranges change_ranges
    without_owner may_read may_write text_size opened_size record_size records_size entry_bytes fits acts least_free
    paid_on choose went went_push both_open is_linking linking link serve_all take_all served_all taken_all has_more
    drain is_talking hangs is_orphan went_if last_refusal finished_by finished_after drain_and_cut each drop_orphan tidy
    least is_apart some_unsettled linked pushed_round ready_round rounds settle_below go course take_all_out
    take_all_records take_all_acts due_in expire_records is_filled upper same_name name_before units_of utf16_length
    parent_from parent_of leaf_from leaf_of after_name begins_below is_below is_plain is_component components_from
    is_path begins_with_backslash is_quiet_script has_given_up
computed = 0
