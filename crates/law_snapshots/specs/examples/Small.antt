-- A small state: a file that is open since the epoch before, a gap in the numbers, a file in a directory, a lock, a mark.
use Rattle.std.specs.Prelude.{ℕ, ◌==◌, true, false, if◌then◌else◌, List, [], ◌∷◌, take, drop, Some, None}
use Rattle.spec_exchange.specs.Commands.{has_bit, deletes_on_close}
use Rattle.spec_exchange.specs.Content.{padded, is_empty, written, ended, meets, same_bytes}
use Rattle.spec_exchange.specs.State.{Server, Record, NewOpen, Origin, EpochRecord, CreateRecord, WriteRecord, DeleteRecord, RemoveRecord}
use Rattle.spec_exchange.specs.State.{LockRecord, VersionRecord, ExpireRecord}
use Rattle.spec_exchange.specs.Files.{find_in, find, path_in, path_of, exists_in, exists, is_directory, is_found_directory, has_parent}
use Rattle.spec_exchange.specs.Files.{has_below, is_full_directory, sizes, used, passes_room, times_at, touched, without_file}
use Rattle.spec_exchange.specs.Fold.{fold, fold_from, sweep, may_make, may_restore, may_have_open, may_create, is_file, may_remove, persistent_in, ranges_that_stay}
use Rattle.spec_exchange.specs.Opens.{opens_in, file_has_open, goes}
use Rattle.spec_exchange.specs.Ranges.{overlaps, is_denied, any_wraps, count_owned, add_ranges, stands_or, lock_ranges, change_ranges, without_owner}
use Rattle.spec_exchange.specs.Table.{is_filled}
use Rattle.spec_exchange.specs.Texts.{upper, same_name, name_before, units_of, utf16_length, parent_from, parent_of, leaf_from, leaf_of, after_name}
use Rattle.spec_exchange.specs.Texts.{begins_below, is_below, is_plain, is_component, components_from, is_path, begins_with_backslash}
use Rattle.law_snapshots.specs.snapshots.Kept.{patches_of}
use Rattle.law_snapshots.specs.snapshots.Pieces.{SnapshotPiece, snapshot, unfolded, FileBytes, placed_entry, may_place, has_free_guid, may_stand}
use Rattle.law_snapshots.specs.snapshots.Pieces.{with_pieces, bytes_pieces, patched, file_pieces, slot_piece, slot_pieces, open_pieces, range_pieces, all_range_pieces, guid_pieces}

abbrev pub no_origin : Origin
no_origin = record { session = 0; connection = 0; message = 0 }

abbrev pub opened : ℕ → ℕ → NewOpen
opened id guid = record {
  id = id;
  client_guid = 7;
  create_guid = guid;
  user = 85 ∷ [];
  access = 3;
  share = 7;
  options = 0;
  timeout = 60000;
}

abbrev pub small_records : List Record
small_records =
    VersionRecord 2
    ∷ EpochRecord 1
    ∷ CreateRecord no_origin 2 1 (97 ∷ []) 32 false 5 (Some (opened 0x1_0000_0001 9))
    ∷ WriteRecord no_origin 1 2 6 (104 ∷ 105 ∷ [])
    ∷ CreateRecord no_origin 2 2 (100 ∷ []) 16 true 7 None
    ∷ CreateRecord no_origin 2 3 (116 ∷ []) 32 false 7 None
    ∷ WriteRecord no_origin 3 0 7 (1 ∷ 2 ∷ 3 ∷ [])
    ∷ RemoveRecord no_origin 3
    ∷ CreateRecord no_origin 2 4 (100 ∷ 92 ∷ 98 ∷ []) 32 false 8 None
    ∷ WriteRecord no_origin 4 0 9 (98 ∷ [])
    ∷ WriteRecord no_origin 4 2 9 (99 ∷ [])
    ∷ LockRecord no_origin 0x1_0000_0001 1 0 0 (record { at = 0; length = 10; flags = 2 } ∷ [])
    ∷ DeleteRecord no_origin 1 true
    ∷ EpochRecord 2
    ∷ CreateRecord no_origin 1 4 (100 ∷ 92 ∷ 98 ∷ []) 0 false 9 (Some (opened 0x2_0000_0001 10))
    ∷ ExpireRecord no_origin 0x2_0000_0001
    ∷ []

-- the first byte of file 4 is stored, with others behind it that no longer count
abbrev pub small : Server
small = record (fold small_records) { stored = λ f. if f == 4 then 98 ∷ 7 ∷ 7 ∷ [] else [] }

abbrev pub held : ℕ → FileBytes
held f = if f == 4 then record { stored = 1; patches = record { at = 2; bytes = 99 ∷ [] } ∷ [] } else record {
  stored = 0;
  patches = patches_of 0 (take 1 (small.content f) ∷ drop 1 (small.content f) ∷ []);
}

abbrev pub told : List SnapshotPiece
told = snapshot small held ((7, 10) ∷ [])

abbrev pub again : Server
again = unfolded told small.stored

unfoldable pub computed : ℕ
unfolding has_bit deletes_on_close padded is_empty written ended meets same_bytes find_in find path_in path_of exists_in exists is_directory
    is_found_directory has_parent has_below is_full_directory sizes used passes_room times_at touched without_file fold_from sweep
    may_make may_restore may_have_open may_create is_file may_remove persistent_in ranges_that_stay opens_in file_has_open goes overlaps
    is_denied any_wraps count_owned add_ranges stands_or lock_ranges change_ranges without_owner is_filled upper same_name name_before
    units_of utf16_length parent_from parent_of leaf_from leaf_of after_name begins_below is_below is_plain is_component components_from
    is_path begins_with_backslash placed_entry may_place has_free_guid may_stand with_pieces bytes_pieces patched patches_of file_pieces
    slot_piece slot_pieces open_pieces range_pieces all_range_pieces guid_pieces
computed = 0
