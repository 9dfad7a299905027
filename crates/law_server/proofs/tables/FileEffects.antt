-- Written by tools/law_server.py. A file is made, with the next number; a file becomes delete pending or no longer is, and not the root; a file goes that no open has; a file has another path, and what no open has goes for it; a file's ranges are others, of opens that stand at it.
use Rattle.std.proofs.Common.{◌≡◌, ◌≢◌, ℕ, ◌==◌, Bool, true, false, ◌||◌, List, refl, arith, sym, ◌∙◌, Option, Some, None, slice_get}
use Rattle.std.proofs.lemmas.Bool.Decides.{nat_tests}
use Rattle.spec_exchange.specs.State.{Server, Range, Entry}
use Rattle.spec_exchange.specs.Files.{root, exists, exists_in, make_file, set_delete_pending, remove_file, rename_file, without_target, moved_entries, path_of}
use Rattle.spec_exchange.specs.Effects.{set_ranges}
use Rattle.law_server.specs.tables.Fits.{Fits, RangeOwners, RootStays, OpenFiles, NextFile, FileNumbers}
use Rattle.law_server.proofs.tables.Lists.{exists-pushed, exists-without, exists-moved}

make_file_range_owners : (s : Server) (path : List ℕ) (is_dir : Bool) (attributes : ℕ) (now : ℕ) → RangeOwners s → RangeOwners (make_file s path is_dir attributes now)
unfolding exists
make_file_range_owners s path is_dir attributes now i_range_owners =
    λ y n r. let old = i_range_owners y n r in grind arith

make_file_root_stays : (s : Server) (path : List ℕ) (is_dir : Bool) (attributes : ℕ) (now : ℕ) → RootStays s → RootStays (make_file s path is_dir attributes now)
unfolding exists
make_file_root_stays s path is_dir attributes now i_root_stays =
    grind arith

make_file_open_files : (s : Server) (path : List ℕ) (is_dir : Bool) (attributes : ℕ) (now : ℕ) → OpenFiles s → OpenFiles (make_file s path is_dir attributes now)
unfolding exists
make_file_open_files s path is_dir attributes now i_open_files =
    λ p st. let old = i_open_files p st in let more = exists-pushed s.entries (record { file = s.next_file; path = path }) (s.opened p).file in grind arith

make_file_next_file : (s : Server) (path : List ℕ) (is_dir : Bool) (attributes : ℕ) (now : ℕ) → NextFile s → NextFile (make_file s path is_dir attributes now)
unfolding exists
make_file_next_file s path is_dir attributes now i_next_file =
    grind arith

make_file_file_numbers : (s : Server) (path : List ℕ) (is_dir : Bool) (attributes : ℕ) (now : ℕ) → FileNumbers s → NextFile s → FileNumbers (make_file s path is_dir attributes now)
unfolding exists
make_file_file_numbers s path is_dir attributes now i_file_numbers i_next_file =
    λ y. let old = i_file_numbers y in let more = exists-pushed s.entries (record { file = s.next_file; path = path }) y in grind (arith, nat_tests)

-- a file is made, with the next number
pub make_file_keeps : (s : Server) (path : List ℕ) (is_dir : Bool) (attributes : ℕ) (now : ℕ) → Fits s → Fits (make_file s path is_dir attributes now)
unfolding exists
make_file_keeps s path is_dir attributes now i =
    record {
      attached = i.attached;
      plain_attached = i.plain_attached;
      guid_open = i.guid_open;
      open_guid = i.open_guid;
      persistent_guid = i.persistent_guid;
      deadlines = i.deadlines;
      listed = i.listed;
      ascending = i.ascending;
      open_ids = i.open_ids;
      given = i.given;
      begun = i.begun;
      session_ids = i.session_ids;
      making_ids = i.making_ids;
      making_once = i.making_once;
      on_present = i.on_present;
      on_made = i.on_made;
      no_trees = i.no_trees;
      no_closed = i.no_closed;
      no_refused = i.no_refused;
      no_guids = i.no_guids;
      next_tree = i.next_tree;
      tree_ids = i.tree_ids;
      range_owners = make_file_range_owners s path is_dir attributes now i.range_owners;
      not_root = i.not_root;
      root_stays = make_file_root_stays s path is_dir attributes now i.root_stays;
      open_files = make_file_open_files s path is_dir attributes now i.open_files;
      next_file = make_file_next_file s path is_dir attributes now i.next_file;
      file_numbers = make_file_file_numbers s path is_dir attributes now i.file_numbers i.next_file;
      room = i.room;
      limit = i.limit;
    }

set_delete_pending_root_stays : (s : Server) (f : ℕ) (flag : Bool) → (flag ≡ true → f ≢ root) → RootStays s → RootStays (set_delete_pending s f flag)
unfolding exists
set_delete_pending_root_stays s f flag other i_root_stays =
    grind arith

-- a file becomes delete pending or no longer is, and not the root
pub set_delete_pending_keeps : (s : Server) (f : ℕ) (flag : Bool) → (flag ≡ true → f ≢ root) → Fits s → Fits (set_delete_pending s f flag)
unfolding exists
set_delete_pending_keeps s f flag other i =
    record {
      attached = i.attached;
      plain_attached = i.plain_attached;
      guid_open = i.guid_open;
      open_guid = i.open_guid;
      persistent_guid = i.persistent_guid;
      deadlines = i.deadlines;
      listed = i.listed;
      ascending = i.ascending;
      open_ids = i.open_ids;
      given = i.given;
      begun = i.begun;
      session_ids = i.session_ids;
      making_ids = i.making_ids;
      making_once = i.making_once;
      on_present = i.on_present;
      on_made = i.on_made;
      no_trees = i.no_trees;
      no_closed = i.no_closed;
      no_refused = i.no_refused;
      no_guids = i.no_guids;
      next_tree = i.next_tree;
      tree_ids = i.tree_ids;
      range_owners = i.range_owners;
      not_root = i.not_root;
      root_stays = set_delete_pending_root_stays s f flag other i.root_stays;
      open_files = i.open_files;
      next_file = i.next_file;
      file_numbers = i.file_numbers;
      room = i.room;
      limit = i.limit;
    }

remove_file_open_files : (s : Server) (f : ℕ) → ((p : ℕ) → s.standing p ≡ true → ((s.opened p).file == f) ≡ false) → OpenFiles s → OpenFiles (remove_file s f)
unfolding exists
remove_file_open_files s f unopened i_open_files =
    λ p st. let old = i_open_files p st in let rest = exists-without f s.entries (s.opened p).file in let other = unopened p st in grind arith

remove_file_file_numbers : (s : Server) (f : ℕ) → ((p : ℕ) → s.standing p ≡ true → ((s.opened p).file == f) ≡ false) → FileNumbers s → FileNumbers (remove_file s f)
unfolding exists
remove_file_file_numbers s f unopened i_file_numbers =
    λ y. let old = i_file_numbers y in let rest = exists-without f s.entries y in grind arith

-- a file goes that no open has
pub remove_file_keeps : (s : Server) (f : ℕ) → ((p : ℕ) → s.standing p ≡ true → ((s.opened p).file == f) ≡ false) → Fits s → Fits (remove_file s f)
unfolding exists
remove_file_keeps s f unopened i =
    record {
      attached = i.attached;
      plain_attached = i.plain_attached;
      guid_open = i.guid_open;
      open_guid = i.open_guid;
      persistent_guid = i.persistent_guid;
      deadlines = i.deadlines;
      listed = i.listed;
      ascending = i.ascending;
      open_ids = i.open_ids;
      given = i.given;
      begun = i.begun;
      session_ids = i.session_ids;
      making_ids = i.making_ids;
      making_once = i.making_once;
      on_present = i.on_present;
      on_made = i.on_made;
      no_trees = i.no_trees;
      no_closed = i.no_closed;
      no_refused = i.no_refused;
      no_guids = i.no_guids;
      next_tree = i.next_tree;
      tree_ids = i.tree_ids;
      range_owners = i.range_owners;
      not_root = i.not_root;
      root_stays = i.root_stays;
      open_files = remove_file_open_files s f unopened i.open_files;
      next_file = i.next_file;
      file_numbers = remove_file_file_numbers s f unopened i.file_numbers;
      room = i.room;
      limit = i.limit;
    }

without_target-was : (es : List Entry) (y : ℕ) (replaced : Option ℕ) → exists_in (without_target replaced es) y ≡ true
    → exists_in es y ≡ true
unfolding without_target
without_target-was es y None h = h
without_target-was es y (Some t) h = let rest = exists-without t es y in grind arith

renamed_was : (s : Server) (old to : List ℕ) (y : ℕ) (replaced : Option ℕ)
    → exists_in (moved_entries old to (without_target replaced s.entries)) y ≡ true → exists_in s.entries y ≡ true
renamed_was s old to y replaced h = without_target-was s.entries y replaced
    (sym (exists-moved old to (without_target replaced s.entries) y) ∙ h)

without_target-there : (es : List Entry) (y : ℕ) (replaced : Option ℕ)
    → ((t : ℕ) → replaced ≡ Some t → (y == t) ≡ false) → exists_in es y ≡ true → exists_in (without_target replaced es) y ≡ true
unfolding without_target
without_target-there es y None other h = h
without_target-there es y (Some t) other h = let rest = exists-without t es y in let o = other t refl in grind arith

renamed_there : (s : Server) (old to : List ℕ) (y : ℕ) (replaced : Option ℕ)
    → ((t : ℕ) → replaced ≡ Some t → (y == t) ≡ false) → ((y == root) || exists_in s.entries y) ≡ true
    → ((y == root) || exists_in (moved_entries old to (without_target replaced s.entries)) y) ≡ true
renamed_there s old to y replaced other h =
    let same = exists-moved old to (without_target replaced s.entries) y in let there = without_target-there s.entries y
    replaced other in grind arith

rename_file_open_files : (s : Server) (f : ℕ) (replaced : Option ℕ) (to : List ℕ) → ((t p : ℕ) → replaced ≡ Some t → s.standing p ≡ true → ((s.opened p).file == t) ≡ false) → OpenFiles s → OpenFiles (rename_file s f replaced to)
unfolding exists
rename_file_open_files s f replaced to unopened i_open_files =
    λ p st. renamed_there s (path_of s f) to (s.opened p).file replaced (λ t e. unopened t p e st) (i_open_files p st)

rename_file_file_numbers : (s : Server) (f : ℕ) (replaced : Option ℕ) (to : List ℕ) → ((t p : ℕ) → replaced ≡ Some t → s.standing p ≡ true → ((s.opened p).file == t) ≡ false) → FileNumbers s → FileNumbers (rename_file s f replaced to)
unfolding exists
rename_file_file_numbers s f replaced to unopened i_file_numbers =
    λ y h. i_file_numbers y (renamed_was s (path_of s f) to y replaced h)

-- a file has another path, and what no open has goes for it
pub rename_file_keeps : (s : Server) (f : ℕ) (replaced : Option ℕ) (to : List ℕ) → ((t p : ℕ) → replaced ≡ Some t → s.standing p ≡ true → ((s.opened p).file == t) ≡ false) → Fits s → Fits (rename_file s f replaced to)
unfolding exists
rename_file_keeps s f replaced to unopened i =
    record {
      attached = i.attached;
      plain_attached = i.plain_attached;
      guid_open = i.guid_open;
      open_guid = i.open_guid;
      persistent_guid = i.persistent_guid;
      deadlines = i.deadlines;
      listed = i.listed;
      ascending = i.ascending;
      open_ids = i.open_ids;
      given = i.given;
      begun = i.begun;
      session_ids = i.session_ids;
      making_ids = i.making_ids;
      making_once = i.making_once;
      on_present = i.on_present;
      on_made = i.on_made;
      no_trees = i.no_trees;
      no_closed = i.no_closed;
      no_refused = i.no_refused;
      no_guids = i.no_guids;
      next_tree = i.next_tree;
      tree_ids = i.tree_ids;
      range_owners = i.range_owners;
      not_root = i.not_root;
      root_stays = i.root_stays;
      open_files = rename_file_open_files s f replaced to unopened i.open_files;
      next_file = i.next_file;
      file_numbers = rename_file_file_numbers s f replaced to unopened i.file_numbers;
      room = i.room;
      limit = i.limit;
    }

set_ranges_range_owners : (s : Server) (f : ℕ) (ranges : List Range) → ((n : ℕ) (r : Range) → slice_get ranges n ≡ Some r → s.standing r.owner ≡ true × (s.opened r.owner).file ≡ f) → RangeOwners s → RangeOwners (set_ranges s f ranges)
unfolding exists
set_ranges_range_owners s f ranges own i_range_owners =
    λ y n r. let old = i_range_owners y n r in let new = own n r in grind arith

-- a file's ranges are others, of opens that stand at it
pub set_ranges_keeps : (s : Server) (f : ℕ) (ranges : List Range) → ((n : ℕ) (r : Range) → slice_get ranges n ≡ Some r → s.standing r.owner ≡ true × (s.opened r.owner).file ≡ f) → Fits s → Fits (set_ranges s f ranges)
unfolding exists
set_ranges_keeps s f ranges own i =
    record {
      attached = i.attached;
      plain_attached = i.plain_attached;
      guid_open = i.guid_open;
      open_guid = i.open_guid;
      persistent_guid = i.persistent_guid;
      deadlines = i.deadlines;
      listed = i.listed;
      ascending = i.ascending;
      open_ids = i.open_ids;
      given = i.given;
      begun = i.begun;
      session_ids = i.session_ids;
      making_ids = i.making_ids;
      making_once = i.making_once;
      on_present = i.on_present;
      on_made = i.on_made;
      no_trees = i.no_trees;
      no_closed = i.no_closed;
      no_refused = i.no_refused;
      no_guids = i.no_guids;
      next_tree = i.next_tree;
      tree_ids = i.tree_ids;
      range_owners = set_ranges_range_owners s f ranges own i.range_owners;
      not_root = i.not_root;
      root_stays = i.root_stays;
      open_files = i.open_files;
      next_file = i.next_file;
      file_numbers = i.file_numbers;
      room = i.room;
      limit = i.limit;
    }
