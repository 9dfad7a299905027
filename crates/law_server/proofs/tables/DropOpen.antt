-- Written by tools/law_server.py. An open leaves, with its ranges and its guid.
use Rattle.std.proofs.Common.{◌≡◌, ℕ, ◌==◌, Bool, true, false, if◌then◌else◌, refl, arith, ◌∙◌, eqb-true, Option, Some, None, slice_get}
use Rattle.spec_exchange.specs.Table.{put}
use Rattle.spec_exchange.specs.State.{Server, Range}
use Rattle.spec_exchange.specs.Files.{exists}
use Rattle.spec_exchange.specs.Opens.{with_guid, drop_open}
use Rattle.spec_exchange.specs.Ranges.{without_owner}
use Rattle.law_server.specs.tables.Fits.{Fits, Attached, PlainAttached, GuidOpen, OpenGuid, PersistentGuid, Deadlines, Listed, Ascending, OpenIds, RangeOwners, OpenFiles}
use Rattle.law_server.proofs.tables.Lists.{has-without, ascending-without, without_owner-from}

dropped_guid : (s : Server) (o c g p : ℕ) → GuidOpen s → (u : Option ℕ) → (s.opened o).create_guid ≡ u
    → with_guid s.by_guid (s.opened o).client_guid u None c g ≡ Some p
    → put s.standing o false p ≡ true × (s.opened p).client_guid ≡ c × (s.opened p).create_guid ≡ Some g
dropped_guid s o c g p old None e = let was = old c g p in grind arith
dropped_guid s o c g p old (Some h) e = let was = old c g p in grind arith

dropped_open : (s : Server) (o p g : ℕ) → s.standing o ≡ true → OpenGuid s → (u : Option ℕ) → (s.opened o).create_guid
    ≡ u → put s.standing o false p ≡ true → (s.opened p).create_guid ≡ Some g
    → with_guid s.by_guid (s.opened o).client_guid u None (s.opened p).client_guid g ≡ Some p
dropped_open s o p g stands old None e = let was = old p g in grind arith
dropped_open s o p g stands old (Some h) e = let was = old p g in let own = old o h stands e in grind arith

dropped_range : (s : Server) (o y n : ℕ) (r : Range) → RangeOwners s → (b : Bool) → (y == (s.opened o).file) ≡ b
    → slice_get (if b then without_owner o (s.ranges (s.opened o).file) else s.ranges y) n ≡ Some r
    → put s.standing o false r.owner ≡ true × (s.opened r.owner).file ≡ y
dropped_range s o y n r old true e h = let f = without_owner-from o (s.ranges (s.opened o).file) n r h in let was = old
    (s.opened o).file f.1.0 r f.1.1 in let same = eqb-true y (s.opened o).file e in grind arith
dropped_range s o y n r old false e h = let was = old y n r h in grind arith

drop_open_attached : (s : Server) (o : ℕ) → (s.standing o ≡ true) → Attached s → Attached (drop_open s o)
unfolding exists
drop_open_attached s o stands i_attached =
    λ p x. let old = i_attached p x in grind arith

drop_open_plain_attached : (s : Server) (o : ℕ) → (s.standing o ≡ true) → PlainAttached s → PlainAttached (drop_open s o)
unfolding exists
drop_open_plain_attached s o stands i_plain_attached =
    λ p. let old = i_plain_attached p in grind arith

drop_open_guid_open : (s : Server) (o : ℕ) → (s.standing o ≡ true) → GuidOpen s → GuidOpen (drop_open s o)
unfolding exists
drop_open_guid_open s o stands i_guid_open =
    λ c g p. dropped_guid s o c g p i_guid_open (s.opened o).create_guid refl

drop_open_open_guid : (s : Server) (o : ℕ) → (s.standing o ≡ true) → OpenGuid s → OpenGuid (drop_open s o)
unfolding exists
drop_open_open_guid s o stands i_open_guid =
    λ p g. dropped_open s o p g stands i_open_guid (s.opened o).create_guid refl

drop_open_persistent_guid : (s : Server) (o : ℕ) → (s.standing o ≡ true) → PersistentGuid s → PersistentGuid (drop_open s o)
unfolding exists
drop_open_persistent_guid s o stands i_persistent_guid =
    λ p. let old = i_persistent_guid p in grind arith

drop_open_deadlines : (s : Server) (o : ℕ) → (s.standing o ≡ true) → Deadlines s → Deadlines (drop_open s o)
unfolding exists
drop_open_deadlines s o stands i_deadlines =
    λ p d. let old = i_deadlines p d in grind arith

drop_open_listed : (s : Server) (o : ℕ) → (s.standing o ≡ true) → Listed s → Listed (drop_open s o)
unfolding exists
drop_open_listed s o stands i_listed =
    λ p. let old = i_listed p in has-without p o s.opens ∙ (grind arith)

drop_open_ascending : (s : Server) (o : ℕ) → (s.standing o ≡ true) → Ascending s → Ascending (drop_open s o)
unfolding exists
drop_open_ascending s o stands i_ascending =
    ascending-without o s.opens i_ascending

drop_open_open_ids : (s : Server) (o : ℕ) → (s.standing o ≡ true) → OpenIds s → OpenIds (drop_open s o)
unfolding exists
drop_open_open_ids s o stands i_open_ids =
    λ p. let old = i_open_ids p in grind arith

drop_open_range_owners : (s : Server) (o : ℕ) → (s.standing o ≡ true) → RangeOwners s → RangeOwners (drop_open s o)
unfolding exists
drop_open_range_owners s o stands i_range_owners =
    λ y n r. dropped_range s o y n r i_range_owners (y == (s.opened o).file) refl

drop_open_open_files : (s : Server) (o : ℕ) → (s.standing o ≡ true) → OpenFiles s → OpenFiles (drop_open s o)
unfolding exists
drop_open_open_files s o stands i_open_files =
    λ p. let old = i_open_files p in grind arith

-- an open leaves, with its ranges and its guid
pub drop_open_keeps : (s : Server) (o : ℕ) → (s.standing o ≡ true) → Fits s → Fits (drop_open s o)
unfolding exists
drop_open_keeps s o stands i =
    record {
      attached = drop_open_attached s o stands i.attached;
      plain_attached = drop_open_plain_attached s o stands i.plain_attached;
      guid_open = drop_open_guid_open s o stands i.guid_open;
      open_guid = drop_open_open_guid s o stands i.open_guid;
      persistent_guid = drop_open_persistent_guid s o stands i.persistent_guid;
      deadlines = drop_open_deadlines s o stands i.deadlines;
      listed = drop_open_listed s o stands i.listed;
      ascending = drop_open_ascending s o stands i.ascending;
      open_ids = drop_open_open_ids s o stands i.open_ids;
      given = i.given;
      begun = i.begun;
      session_ids = i.session_ids;
      making_ids = i.making_ids;
      making_once = i.making_once;
      on_present = i.on_present;
      on_made = i.on_made;
      no_trees = i.no_trees;
      no_closed = i.no_closed;
      no_refused = i.no_refused;
      no_guids = i.no_guids;
      next_tree = i.next_tree;
      tree_ids = i.tree_ids;
      range_owners = drop_open_range_owners s o stands i.range_owners;
      not_root = i.not_root;
      root_stays = i.root_stays;
      open_files = drop_open_open_files s o stands i.open_files;
      next_file = i.next_file;
      file_numbers = i.file_numbers;
      room = i.room;
      limit = i.limit;
    }
