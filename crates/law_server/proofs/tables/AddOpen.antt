-- Written by tools/law_server.py. A new open stands, with an id that no open has.
use Rattle.std.proofs.Common.{◌≡◌, ◌≢◌, ℕ, ◌≤◌, ◌<◌, true, false, refl, arith, ◌∙◌, Option, Some, None, is_some}
use Rattle.spec_exchange.specs.Table.{put}
use Rattle.spec_exchange.specs.Commands.{deletes_on_close}
use Rattle.spec_exchange.specs.State.{Server, Open}
use Rattle.spec_exchange.specs.Files.{root, exists}
use Rattle.spec_exchange.specs.Opens.{id_of, max_ids, with_guid, add_open}
use Rattle.law_server.specs.tables.Fits.{Fits, Attached, PlainAttached, GuidOpen, OpenGuid, PersistentGuid, Deadlines, Listed, Ascending, OpenIds, Given, NoGuids, RangeOwners, NotRoot, OpenFiles}
use Rattle.law_server.proofs.tables.Lists.{has-placed, ascending-placed}

-- the table of guids with the new open's, as its guid is
added_guid : (s : Server) (o : ℕ) (row : Open) (c g p : ℕ) → s.standing o ≡ false → GuidOpen s → (u : Option ℕ)
    → row.create_guid ≡ u → with_guid s.by_guid row.client_guid u (Some o) c g ≡ Some p
    → put s.standing o true p ≡ true × (put s.opened o row p).client_guid ≡ c × (put s.opened o row p).create_guid ≡ Some g
added_guid s o row c g p free old None e = let was = old c g p in grind arith
added_guid s o row c g p free old (Some h) e = let was = old c g p in grind arith

added_open : (s : Server) (o : ℕ) (row : Open) (p g : ℕ) → s.standing o ≡ false
    → ((x : ℕ) → row.create_guid ≡ Some x → s.by_guid row.client_guid x ≡ None) → OpenGuid s → (u : Option ℕ)
    → row.create_guid ≡ u
    → put s.standing o true p ≡ true → (put s.opened o row p).create_guid ≡ Some g
    → with_guid s.by_guid row.client_guid u (Some o) (put s.opened o row p).client_guid g ≡ Some p
added_open s o row p g free guid old None e = let was = old p g in grind arith
added_open s o row p g free guid old (Some h) e = let was = old p g in let new = guid h e in grind arith

add_open_attached : (s : Server) (o : ℕ) (row : Open) (session : Option ℕ) (sequence : ℕ) (n : ℕ) (gs : ℕ → ℕ) (trees : ℕ → ℕ) → (s.standing o ≡ false) → (0 < o) → (o ≤ id_of s.epoch n) → (s.open_ids_given ≤ n) → (n ≤ max_ids) → ((x : ℕ) → session ≡ Some x → s.present x ≡ true) → (row.persistent ≡ false → is_some session ≡ true) → ((g : ℕ) → row.create_guid ≡ Some g → s.by_guid row.client_guid g ≡ None) → (row.persistent ≡ true → is_some row.create_guid ≡ true) → (exists s row.file ≡ true) → (deletes_on_close row.options ≡ true → row.file ≢ root) → ((x : ℕ) → s.present x ≡ false → gs x ≡ 0) → Attached s → Attached (record (add_open s o row session sequence) { open_ids_given = n; tree_of_open = trees; guids = gs })
unfolding exists
add_open_attached s o row session sequence n gs trees free above id more most sess plain guid pguid file off_root kept i_attached =
    λ p x. let old = i_attached p x in let new = sess x in grind arith

add_open_plain_attached : (s : Server) (o : ℕ) (row : Open) (session : Option ℕ) (sequence : ℕ) (n : ℕ) (gs : ℕ → ℕ) (trees : ℕ → ℕ) → (s.standing o ≡ false) → (0 < o) → (o ≤ id_of s.epoch n) → (s.open_ids_given ≤ n) → (n ≤ max_ids) → ((x : ℕ) → session ≡ Some x → s.present x ≡ true) → (row.persistent ≡ false → is_some session ≡ true) → ((g : ℕ) → row.create_guid ≡ Some g → s.by_guid row.client_guid g ≡ None) → (row.persistent ≡ true → is_some row.create_guid ≡ true) → (exists s row.file ≡ true) → (deletes_on_close row.options ≡ true → row.file ≢ root) → ((x : ℕ) → s.present x ≡ false → gs x ≡ 0) → PlainAttached s → PlainAttached (record (add_open s o row session sequence) { open_ids_given = n; tree_of_open = trees; guids = gs })
unfolding exists
add_open_plain_attached s o row session sequence n gs trees free above id more most sess plain guid pguid file off_root kept i_plain_attached =
    λ p. let old = i_plain_attached p in grind arith

add_open_guid_open : (s : Server) (o : ℕ) (row : Open) (session : Option ℕ) (sequence : ℕ) (n : ℕ) (gs : ℕ → ℕ) (trees : ℕ → ℕ) → (s.standing o ≡ false) → (0 < o) → (o ≤ id_of s.epoch n) → (s.open_ids_given ≤ n) → (n ≤ max_ids) → ((x : ℕ) → session ≡ Some x → s.present x ≡ true) → (row.persistent ≡ false → is_some session ≡ true) → ((g : ℕ) → row.create_guid ≡ Some g → s.by_guid row.client_guid g ≡ None) → (row.persistent ≡ true → is_some row.create_guid ≡ true) → (exists s row.file ≡ true) → (deletes_on_close row.options ≡ true → row.file ≢ root) → ((x : ℕ) → s.present x ≡ false → gs x ≡ 0) → GuidOpen s → GuidOpen (record (add_open s o row session sequence) { open_ids_given = n; tree_of_open = trees; guids = gs })
unfolding exists
add_open_guid_open s o row session sequence n gs trees free above id more most sess plain guid pguid file off_root kept i_guid_open =
    λ c g p. added_guid s o row c g p free i_guid_open row.create_guid refl

add_open_open_guid : (s : Server) (o : ℕ) (row : Open) (session : Option ℕ) (sequence : ℕ) (n : ℕ) (gs : ℕ → ℕ) (trees : ℕ → ℕ) → (s.standing o ≡ false) → (0 < o) → (o ≤ id_of s.epoch n) → (s.open_ids_given ≤ n) → (n ≤ max_ids) → ((x : ℕ) → session ≡ Some x → s.present x ≡ true) → (row.persistent ≡ false → is_some session ≡ true) → ((g : ℕ) → row.create_guid ≡ Some g → s.by_guid row.client_guid g ≡ None) → (row.persistent ≡ true → is_some row.create_guid ≡ true) → (exists s row.file ≡ true) → (deletes_on_close row.options ≡ true → row.file ≢ root) → ((x : ℕ) → s.present x ≡ false → gs x ≡ 0) → OpenGuid s → OpenGuid (record (add_open s o row session sequence) { open_ids_given = n; tree_of_open = trees; guids = gs })
unfolding exists
add_open_open_guid s o row session sequence n gs trees free above id more most sess plain guid pguid file off_root kept i_open_guid =
    λ p g. added_open s o row p g free guid i_open_guid row.create_guid refl

add_open_persistent_guid : (s : Server) (o : ℕ) (row : Open) (session : Option ℕ) (sequence : ℕ) (n : ℕ) (gs : ℕ → ℕ) (trees : ℕ → ℕ) → (s.standing o ≡ false) → (0 < o) → (o ≤ id_of s.epoch n) → (s.open_ids_given ≤ n) → (n ≤ max_ids) → ((x : ℕ) → session ≡ Some x → s.present x ≡ true) → (row.persistent ≡ false → is_some session ≡ true) → ((g : ℕ) → row.create_guid ≡ Some g → s.by_guid row.client_guid g ≡ None) → (row.persistent ≡ true → is_some row.create_guid ≡ true) → (exists s row.file ≡ true) → (deletes_on_close row.options ≡ true → row.file ≢ root) → ((x : ℕ) → s.present x ≡ false → gs x ≡ 0) → PersistentGuid s → PersistentGuid (record (add_open s o row session sequence) { open_ids_given = n; tree_of_open = trees; guids = gs })
unfolding exists
add_open_persistent_guid s o row session sequence n gs trees free above id more most sess plain guid pguid file off_root kept i_persistent_guid =
    λ p. let old = i_persistent_guid p in grind arith

add_open_deadlines : (s : Server) (o : ℕ) (row : Open) (session : Option ℕ) (sequence : ℕ) (n : ℕ) (gs : ℕ → ℕ) (trees : ℕ → ℕ) → (s.standing o ≡ false) → (0 < o) → (o ≤ id_of s.epoch n) → (s.open_ids_given ≤ n) → (n ≤ max_ids) → ((x : ℕ) → session ≡ Some x → s.present x ≡ true) → (row.persistent ≡ false → is_some session ≡ true) → ((g : ℕ) → row.create_guid ≡ Some g → s.by_guid row.client_guid g ≡ None) → (row.persistent ≡ true → is_some row.create_guid ≡ true) → (exists s row.file ≡ true) → (deletes_on_close row.options ≡ true → row.file ≢ root) → ((x : ℕ) → s.present x ≡ false → gs x ≡ 0) → Deadlines s → Deadlines (record (add_open s o row session sequence) { open_ids_given = n; tree_of_open = trees; guids = gs })
unfolding exists
add_open_deadlines s o row session sequence n gs trees free above id more most sess plain guid pguid file off_root kept i_deadlines =
    λ p d. let old = i_deadlines p d in grind arith

add_open_listed : (s : Server) (o : ℕ) (row : Open) (session : Option ℕ) (sequence : ℕ) (n : ℕ) (gs : ℕ → ℕ) (trees : ℕ → ℕ) → (s.standing o ≡ false) → (0 < o) → (o ≤ id_of s.epoch n) → (s.open_ids_given ≤ n) → (n ≤ max_ids) → ((x : ℕ) → session ≡ Some x → s.present x ≡ true) → (row.persistent ≡ false → is_some session ≡ true) → ((g : ℕ) → row.create_guid ≡ Some g → s.by_guid row.client_guid g ≡ None) → (row.persistent ≡ true → is_some row.create_guid ≡ true) → (exists s row.file ≡ true) → (deletes_on_close row.options ≡ true → row.file ≢ root) → ((x : ℕ) → s.present x ≡ false → gs x ≡ 0) → Listed s → Listed (record (add_open s o row session sequence) { open_ids_given = n; tree_of_open = trees; guids = gs })
unfolding exists
add_open_listed s o row session sequence n gs trees free above id more most sess plain guid pguid file off_root kept i_listed =
    λ p. let old = i_listed p in has-placed p o s.opens ∙ (grind arith)

add_open_ascending : (s : Server) (o : ℕ) (row : Open) (session : Option ℕ) (sequence : ℕ) (n : ℕ) (gs : ℕ → ℕ) (trees : ℕ → ℕ) → (s.standing o ≡ false) → (0 < o) → (o ≤ id_of s.epoch n) → (s.open_ids_given ≤ n) → (n ≤ max_ids) → ((x : ℕ) → session ≡ Some x → s.present x ≡ true) → (row.persistent ≡ false → is_some session ≡ true) → ((g : ℕ) → row.create_guid ≡ Some g → s.by_guid row.client_guid g ≡ None) → (row.persistent ≡ true → is_some row.create_guid ≡ true) → (exists s row.file ≡ true) → (deletes_on_close row.options ≡ true → row.file ≢ root) → ((x : ℕ) → s.present x ≡ false → gs x ≡ 0) → Ascending s → Listed s → Ascending (record (add_open s o row session sequence) { open_ids_given = n; tree_of_open = trees; guids = gs })
unfolding exists
add_open_ascending s o row session sequence n gs trees free above id more most sess plain guid pguid file off_root kept i_ascending i_listed =
    ascending-placed o s.opens i_ascending (i_listed o ∙ free)

add_open_open_ids : (s : Server) (o : ℕ) (row : Open) (session : Option ℕ) (sequence : ℕ) (n : ℕ) (gs : ℕ → ℕ) (trees : ℕ → ℕ) → (s.standing o ≡ false) → (0 < o) → (o ≤ id_of s.epoch n) → (s.open_ids_given ≤ n) → (n ≤ max_ids) → ((x : ℕ) → session ≡ Some x → s.present x ≡ true) → (row.persistent ≡ false → is_some session ≡ true) → ((g : ℕ) → row.create_guid ≡ Some g → s.by_guid row.client_guid g ≡ None) → (row.persistent ≡ true → is_some row.create_guid ≡ true) → (exists s row.file ≡ true) → (deletes_on_close row.options ≡ true → row.file ≢ root) → ((x : ℕ) → s.present x ≡ false → gs x ≡ 0) → OpenIds s → OpenIds (record (add_open s o row session sequence) { open_ids_given = n; tree_of_open = trees; guids = gs })
unfolding exists
add_open_open_ids s o row session sequence n gs trees free above id more most sess plain guid pguid file off_root kept i_open_ids =
    λ p. let old = i_open_ids p in grind arith

add_open_given : (s : Server) (o : ℕ) (row : Open) (session : Option ℕ) (sequence : ℕ) (n : ℕ) (gs : ℕ → ℕ) (trees : ℕ → ℕ) → (s.standing o ≡ false) → (0 < o) → (o ≤ id_of s.epoch n) → (s.open_ids_given ≤ n) → (n ≤ max_ids) → ((x : ℕ) → session ≡ Some x → s.present x ≡ true) → (row.persistent ≡ false → is_some session ≡ true) → ((g : ℕ) → row.create_guid ≡ Some g → s.by_guid row.client_guid g ≡ None) → (row.persistent ≡ true → is_some row.create_guid ≡ true) → (exists s row.file ≡ true) → (deletes_on_close row.options ≡ true → row.file ≢ root) → ((x : ℕ) → s.present x ≡ false → gs x ≡ 0) → Given s → Given (record (add_open s o row session sequence) { open_ids_given = n; tree_of_open = trees; guids = gs })
unfolding exists
add_open_given s o row session sequence n gs trees free above id more most sess plain guid pguid file off_root kept i_given =
    grind arith

add_open_no_guids : (s : Server) (o : ℕ) (row : Open) (session : Option ℕ) (sequence : ℕ) (n : ℕ) (gs : ℕ → ℕ) (trees : ℕ → ℕ) → (s.standing o ≡ false) → (0 < o) → (o ≤ id_of s.epoch n) → (s.open_ids_given ≤ n) → (n ≤ max_ids) → ((x : ℕ) → session ≡ Some x → s.present x ≡ true) → (row.persistent ≡ false → is_some session ≡ true) → ((g : ℕ) → row.create_guid ≡ Some g → s.by_guid row.client_guid g ≡ None) → (row.persistent ≡ true → is_some row.create_guid ≡ true) → (exists s row.file ≡ true) → (deletes_on_close row.options ≡ true → row.file ≢ root) → ((x : ℕ) → s.present x ≡ false → gs x ≡ 0) → NoGuids s → NoGuids (record (add_open s o row session sequence) { open_ids_given = n; tree_of_open = trees; guids = gs })
unfolding exists
add_open_no_guids s o row session sequence n gs trees free above id more most sess plain guid pguid file off_root kept i_no_guids =
    kept

add_open_range_owners : (s : Server) (o : ℕ) (row : Open) (session : Option ℕ) (sequence : ℕ) (n : ℕ) (gs : ℕ → ℕ) (trees : ℕ → ℕ) → (s.standing o ≡ false) → (0 < o) → (o ≤ id_of s.epoch n) → (s.open_ids_given ≤ n) → (n ≤ max_ids) → ((x : ℕ) → session ≡ Some x → s.present x ≡ true) → (row.persistent ≡ false → is_some session ≡ true) → ((g : ℕ) → row.create_guid ≡ Some g → s.by_guid row.client_guid g ≡ None) → (row.persistent ≡ true → is_some row.create_guid ≡ true) → (exists s row.file ≡ true) → (deletes_on_close row.options ≡ true → row.file ≢ root) → ((x : ℕ) → s.present x ≡ false → gs x ≡ 0) → RangeOwners s → RangeOwners (record (add_open s o row session sequence) { open_ids_given = n; tree_of_open = trees; guids = gs })
unfolding exists
add_open_range_owners s o row session sequence n gs trees free above id more most sess plain guid pguid file off_root kept i_range_owners =
    λ y n r. let old = i_range_owners y n r in grind arith

add_open_not_root : (s : Server) (o : ℕ) (row : Open) (session : Option ℕ) (sequence : ℕ) (n : ℕ) (gs : ℕ → ℕ) (trees : ℕ → ℕ) → (s.standing o ≡ false) → (0 < o) → (o ≤ id_of s.epoch n) → (s.open_ids_given ≤ n) → (n ≤ max_ids) → ((x : ℕ) → session ≡ Some x → s.present x ≡ true) → (row.persistent ≡ false → is_some session ≡ true) → ((g : ℕ) → row.create_guid ≡ Some g → s.by_guid row.client_guid g ≡ None) → (row.persistent ≡ true → is_some row.create_guid ≡ true) → (exists s row.file ≡ true) → (deletes_on_close row.options ≡ true → row.file ≢ root) → ((x : ℕ) → s.present x ≡ false → gs x ≡ 0) → NotRoot s → NotRoot (record (add_open s o row session sequence) { open_ids_given = n; tree_of_open = trees; guids = gs })
unfolding exists
add_open_not_root s o row session sequence n gs trees free above id more most sess plain guid pguid file off_root kept i_not_root =
    λ p. let old = i_not_root p in grind arith

add_open_open_files : (s : Server) (o : ℕ) (row : Open) (session : Option ℕ) (sequence : ℕ) (n : ℕ) (gs : ℕ → ℕ) (trees : ℕ → ℕ) → (s.standing o ≡ false) → (0 < o) → (o ≤ id_of s.epoch n) → (s.open_ids_given ≤ n) → (n ≤ max_ids) → ((x : ℕ) → session ≡ Some x → s.present x ≡ true) → (row.persistent ≡ false → is_some session ≡ true) → ((g : ℕ) → row.create_guid ≡ Some g → s.by_guid row.client_guid g ≡ None) → (row.persistent ≡ true → is_some row.create_guid ≡ true) → (exists s row.file ≡ true) → (deletes_on_close row.options ≡ true → row.file ≢ root) → ((x : ℕ) → s.present x ≡ false → gs x ≡ 0) → OpenFiles s → OpenFiles (record (add_open s o row session sequence) { open_ids_given = n; tree_of_open = trees; guids = gs })
unfolding exists
add_open_open_files s o row session sequence n gs trees free above id more most sess plain guid pguid file off_root kept i_open_files =
    λ p. let old = i_open_files p in grind arith

-- a new open stands, with an id that no open has
pub add_open_keeps : (s : Server) (o : ℕ) (row : Open) (session : Option ℕ) (sequence : ℕ) (n : ℕ) (gs : ℕ → ℕ) (trees : ℕ → ℕ) → (s.standing o ≡ false) → (0 < o) → (o ≤ id_of s.epoch n) → (s.open_ids_given ≤ n) → (n ≤ max_ids) → ((x : ℕ) → session ≡ Some x → s.present x ≡ true) → (row.persistent ≡ false → is_some session ≡ true) → ((g : ℕ) → row.create_guid ≡ Some g → s.by_guid row.client_guid g ≡ None) → (row.persistent ≡ true → is_some row.create_guid ≡ true) → (exists s row.file ≡ true) → (deletes_on_close row.options ≡ true → row.file ≢ root) → ((x : ℕ) → s.present x ≡ false → gs x ≡ 0) → Fits s → Fits (record (add_open s o row session sequence) { open_ids_given = n; tree_of_open = trees; guids = gs })
unfolding exists
add_open_keeps s o row session sequence n gs trees free above id more most sess plain guid pguid file off_root kept i =
    record {
      attached = add_open_attached s o row session sequence n gs trees free above id more most sess plain guid pguid file off_root kept i.attached;
      plain_attached = add_open_plain_attached s o row session sequence n gs trees free above id more most sess plain guid pguid file off_root kept i.plain_attached;
      guid_open = add_open_guid_open s o row session sequence n gs trees free above id more most sess plain guid pguid file off_root kept i.guid_open;
      open_guid = add_open_open_guid s o row session sequence n gs trees free above id more most sess plain guid pguid file off_root kept i.open_guid;
      persistent_guid = add_open_persistent_guid s o row session sequence n gs trees free above id more most sess plain guid pguid file off_root kept i.persistent_guid;
      deadlines = add_open_deadlines s o row session sequence n gs trees free above id more most sess plain guid pguid file off_root kept i.deadlines;
      listed = add_open_listed s o row session sequence n gs trees free above id more most sess plain guid pguid file off_root kept i.listed;
      ascending = add_open_ascending s o row session sequence n gs trees free above id more most sess plain guid pguid file off_root kept i.ascending i.listed;
      open_ids = add_open_open_ids s o row session sequence n gs trees free above id more most sess plain guid pguid file off_root kept i.open_ids;
      given = add_open_given s o row session sequence n gs trees free above id more most sess plain guid pguid file off_root kept i.given;
      begun = i.begun;
      session_ids = i.session_ids;
      making_ids = i.making_ids;
      making_once = i.making_once;
      on_present = i.on_present;
      on_made = i.on_made;
      no_trees = i.no_trees;
      no_closed = i.no_closed;
      no_refused = i.no_refused;
      no_guids = add_open_no_guids s o row session sequence n gs trees free above id more most sess plain guid pguid file off_root kept i.no_guids;
      next_tree = i.next_tree;
      tree_ids = i.tree_ids;
      range_owners = add_open_range_owners s o row session sequence n gs trees free above id more most sess plain guid pguid file off_root kept i.range_owners;
      not_root = add_open_not_root s o row session sequence n gs trees free above id more most sess plain guid pguid file off_root kept i.not_root;
      root_stays = i.root_stays;
      open_files = add_open_open_files s o row session sequence n gs trees free above id more most sess plain guid pguid file off_root kept i.open_files;
      next_file = i.next_file;
      file_numbers = i.file_numbers;
      room = i.room;
      limit = i.limit;
    }
