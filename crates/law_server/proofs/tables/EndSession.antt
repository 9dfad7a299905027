-- Written by tools/law_server.py. A session ends: its plain opens leave, and what it kept is forgotten.
use Rattle.std.proofs.Common.{◌≡◌, ℕ, ◌<◌, ◌==◌, Bool, true, false, not, ◌&&◌, ◌||◌, refl, arith, subst, ◌∙◌, Option, Some, None}
use Rattle.spec_exchange.specs.State.{Server, Open}
use Rattle.spec_exchange.specs.Files.{root, exists, exists_in}
use Rattle.spec_exchange.specs.Effects.{leaves, end_session, files_behind, guid_staying, cleared, dated}
use Rattle.law_server.specs.tables.Fits.{Fits, Attached, PlainAttached, GuidOpen, OpenGuid, PersistentGuid, Deadlines, Listed, Ascending, OpenIds, SessionIds, MakingIds, OnPresent, OnMade, NoTrees, NoClosed, NoRefused, NoGuids, NextTree, TreeIds, RangeOwners, NotRoot, RootStays, OpenFiles, FileNumbers}
use Rattle.law_server.proofs.tables.Logic.{front_of, back_of, not_true}
use Rattle.law_server.proofs.tables.Lists.{has-staying, ascending-staying, ranges_staying-from}
use Rattle.spec_exchange.specs.Effects.{plain_of}
use Rattle.law_server.proofs.tables.Leaving.{AllLeft, files_left, not_plain}

ended_guid : (s : Server) (session c g p : ℕ) → GuidOpen s → (u : Option ℕ) → s.by_guid c g ≡ u → guid_staying s session u ≡ Some p
    → (s.standing p && not (leaves s session p)) ≡ true × (s.opened p).client_guid ≡ c × (s.opened p).create_guid ≡ Some g
ended_guid s session c g p old None e h = absurd (cc)
ended_guid s session c g p old (Some q) e h = let was = old c g q e in grind arith

ended_named : (s : Server) (session p g : ℕ) → (s.standing p ≡ true → (s.opened p).create_guid ≡ Some g
    → s.by_guid (s.opened p).client_guid g ≡ Some p)
    → (s.standing p && not (leaves s session p)) ≡ true → (s.opened p).create_guid ≡ Some g
    → guid_staying s session (s.by_guid (s.opened p).client_guid g) ≡ Some p
ended_named s session p g old st h =
    let e = old (front_of (s.standing p) (not (leaves s session p)) st) h in let out = not_true (leaves s session p)
    (back_of (s.standing p) (not (leaves s session p)) st) in rw e (stays_named s session p out)
  where
    stays_named : (s : Server) (session p : ℕ) → leaves s session p ≡ false → guid_staying s session (Some p) ≡ Some p
    stays_named s session p out = grind arith

dated_end : (session now : ℕ) (row : Open) (at deadline : Option ℕ) (d : ℕ) → ((e : ℕ) → deadline ≡ Some e → at ≡ None)
    → dated session now row at deadline ≡ Some d → cleared session at ≡ None
dated_end session now row None deadline d old h = refl
dated_end session now row (Some x) deadline d old h = let was = old d in grind arith

ended_files : (s : Server) (session : ℕ) (is_quiet : Bool) (p : ℕ)
    → AllLeft s (files_behind s session is_quiet) (plain_of s session) → (s.standing p && not (leaves s session p)) ≡ true
    → (((s.opened p).file == root) || exists_in (files_behind s session is_quiet).entries (s.opened p).file) ≡ true
unfolding exists
ended_files s session is_quiet p left st =
    let stands = front_of (s.standing p) (not (leaves s session p)) st in let out = not_true (leaves s session p)
    (back_of (s.standing p) (not (leaves s session p)) st) in
    let there = left.open_files p (left.stays p stands (not_plain s session p out)) in
    subst (λ rows. (((rows p).file == root) || exists_in (files_behind s session is_quiet).entries (rows p).file) ≡ true) left.opened there

ended_numbers : (s : Server) (session : ℕ) (is_quiet : Bool) (y : ℕ)
    → AllLeft s (files_behind s session is_quiet) (plain_of s session)
    → exists_in (files_behind s session is_quiet).entries y ≡ true → 0 < y × y < s.next_file
ended_numbers s session is_quiet y left h = subst (λ n. 0 < y × y < n) left.next_file (left.file_numbers y h)

end_session_attached : (s : Server) (session : ℕ) (now : ℕ) (is_quiet : Bool) → Attached s → Attached (end_session s session now is_quiet)
unfolding exists
end_session_attached s session now is_quiet i_attached =
    λ p x. let old = i_attached p x in grind arith

end_session_plain_attached : (s : Server) (session : ℕ) (now : ℕ) (is_quiet : Bool) → PlainAttached s → PlainAttached (end_session s session now is_quiet)
unfolding exists
end_session_plain_attached s session now is_quiet i_plain_attached =
    λ p. let old = i_plain_attached p in grind arith

end_session_guid_open : (s : Server) (session : ℕ) (now : ℕ) (is_quiet : Bool) → GuidOpen s → GuidOpen (end_session s session now is_quiet)
unfolding exists
end_session_guid_open s session now is_quiet i_guid_open =
    λ c g p. ended_guid s session c g p i_guid_open (s.by_guid c g) refl

end_session_open_guid : (s : Server) (session : ℕ) (now : ℕ) (is_quiet : Bool) → OpenGuid s → OpenGuid (end_session s session now is_quiet)
unfolding exists
end_session_open_guid s session now is_quiet i_open_guid =
    λ p g. let old = i_open_guid p g in ended_named s session p g old

end_session_persistent_guid : (s : Server) (session : ℕ) (now : ℕ) (is_quiet : Bool) → PersistentGuid s → PersistentGuid (end_session s session now is_quiet)
unfolding exists
end_session_persistent_guid s session now is_quiet i_persistent_guid =
    λ p. let old = i_persistent_guid p in grind arith

end_session_deadlines : (s : Server) (session : ℕ) (now : ℕ) (is_quiet : Bool) → Deadlines s → Deadlines (end_session s session now is_quiet)
unfolding exists
end_session_deadlines s session now is_quiet i_deadlines =
    λ p d. dated_end session now (s.opened p) (s.session_of_open p) (s.deadline p) d (i_deadlines p)

end_session_listed : (s : Server) (session : ℕ) (now : ℕ) (is_quiet : Bool) → Listed s → Listed (end_session s session now is_quiet)
unfolding exists
end_session_listed s session now is_quiet i_listed =
    λ p. let old = i_listed p in has-staying s session p s.opens ∙ (grind arith)

end_session_ascending : (s : Server) (session : ℕ) (now : ℕ) (is_quiet : Bool) → Ascending s → Ascending (end_session s session now is_quiet)
unfolding exists
end_session_ascending s session now is_quiet i_ascending =
    ascending-staying s session s.opens i_ascending

end_session_open_ids : (s : Server) (session : ℕ) (now : ℕ) (is_quiet : Bool) → OpenIds s → OpenIds (end_session s session now is_quiet)
unfolding exists
end_session_open_ids s session now is_quiet i_open_ids =
    λ p. let old = i_open_ids p in grind arith

end_session_session_ids : (s : Server) (session : ℕ) (now : ℕ) (is_quiet : Bool) → SessionIds s → SessionIds (end_session s session now is_quiet)
unfolding exists
end_session_session_ids s session now is_quiet i_session_ids =
    λ x. let old = i_session_ids x in grind arith

end_session_making_ids : (s : Server) (session : ℕ) (now : ℕ) (is_quiet : Bool) → MakingIds s → MakingIds (end_session s session now is_quiet)
unfolding exists
end_session_making_ids s session now is_quiet i_making_ids =
    λ k x. let old = i_making_ids k x in grind arith

end_session_on_present : (s : Server) (session : ℕ) (now : ℕ) (is_quiet : Bool) → OnPresent s → OnPresent (end_session s session now is_quiet)
unfolding exists
end_session_on_present s session now is_quiet i_on_present =
    λ k x. let old = i_on_present k x in grind arith

end_session_on_made : (s : Server) (session : ℕ) (now : ℕ) (is_quiet : Bool) → OnMade s → OnMade (end_session s session now is_quiet)
unfolding exists
end_session_on_made s session now is_quiet i_on_made =
    λ k x. let old = i_on_made k x in grind arith

end_session_no_trees : (s : Server) (session : ℕ) (now : ℕ) (is_quiet : Bool) → NoTrees s → NoTrees (end_session s session now is_quiet)
unfolding exists
end_session_no_trees s session now is_quiet i_no_trees =
    λ x. let old = i_no_trees x in grind arith

end_session_no_closed : (s : Server) (session : ℕ) (now : ℕ) (is_quiet : Bool) → NoClosed s → NoClosed (end_session s session now is_quiet)
unfolding exists
end_session_no_closed s session now is_quiet i_no_closed =
    λ x g. let old = i_no_closed x g in grind arith

end_session_no_refused : (s : Server) (session : ℕ) (now : ℕ) (is_quiet : Bool) → NoRefused s → NoRefused (end_session s session now is_quiet)
unfolding exists
end_session_no_refused s session now is_quiet i_no_refused =
    λ x g. let old = i_no_refused x g in grind arith

end_session_no_guids : (s : Server) (session : ℕ) (now : ℕ) (is_quiet : Bool) → NoGuids s → NoGuids (end_session s session now is_quiet)
unfolding exists
end_session_no_guids s session now is_quiet i_no_guids =
    λ x. let old = i_no_guids x in grind arith

end_session_next_tree : (s : Server) (session : ℕ) (now : ℕ) (is_quiet : Bool) → NextTree s → NextTree (end_session s session now is_quiet)
unfolding exists
end_session_next_tree s session now is_quiet i_next_tree =
    λ x. let old = i_next_tree x in grind arith

end_session_tree_ids : (s : Server) (session : ℕ) (now : ℕ) (is_quiet : Bool) → TreeIds s → TreeIds (end_session s session now is_quiet)
unfolding exists
end_session_tree_ids s session now is_quiet i_tree_ids =
    λ x n t. let old = i_tree_ids x n t in grind arith

end_session_range_owners : (s : Server) (session : ℕ) (now : ℕ) (is_quiet : Bool) → RangeOwners s → RangeOwners (end_session s session now is_quiet)
unfolding exists
end_session_range_owners s session now is_quiet i_range_owners =
    λ y n r h. let f = ranges_staying-from s session (s.ranges y) n r h in let was = i_range_owners y f.1.0 r f.1.1 in let stays = f.0 in grind arith

end_session_root_stays : (s : Server) (session : ℕ) (now : ℕ) (is_quiet : Bool) → RootStays s → OpenFiles s → Listed s → FileNumbers s → NotRoot s → RootStays (end_session s session now is_quiet)
unfolding exists
end_session_root_stays s session now is_quiet i_root_stays i_open_files i_listed i_file_numbers i_not_root =
    (files_left s session is_quiet i_listed i_open_files i_file_numbers i_not_root i_root_stays).not_pending

end_session_open_files : (s : Server) (session : ℕ) (now : ℕ) (is_quiet : Bool) → OpenFiles s → Listed s → FileNumbers s → NotRoot s → RootStays s → OpenFiles (end_session s session now is_quiet)
unfolding exists
end_session_open_files s session now is_quiet i_open_files i_listed i_file_numbers i_not_root i_root_stays =
    λ p st. ended_files s session is_quiet p (files_left s session is_quiet i_listed i_open_files i_file_numbers i_not_root i_root_stays) st

end_session_file_numbers : (s : Server) (session : ℕ) (now : ℕ) (is_quiet : Bool) → FileNumbers s → OpenFiles s → Listed s → NotRoot s → RootStays s → FileNumbers (end_session s session now is_quiet)
unfolding exists
end_session_file_numbers s session now is_quiet i_file_numbers i_open_files i_listed i_not_root i_root_stays =
    λ y h. ended_numbers s session is_quiet y (files_left s session is_quiet i_listed i_open_files i_file_numbers i_not_root i_root_stays) h

-- a session ends: its plain opens leave, and what it kept is forgotten
pub end_session_keeps : (s : Server) (session : ℕ) (now : ℕ) (is_quiet : Bool) → Fits s → Fits (end_session s session now is_quiet)
unfolding exists
end_session_keeps s session now is_quiet i =
    record {
      attached = end_session_attached s session now is_quiet i.attached;
      plain_attached = end_session_plain_attached s session now is_quiet i.plain_attached;
      guid_open = end_session_guid_open s session now is_quiet i.guid_open;
      open_guid = end_session_open_guid s session now is_quiet i.open_guid;
      persistent_guid = end_session_persistent_guid s session now is_quiet i.persistent_guid;
      deadlines = end_session_deadlines s session now is_quiet i.deadlines;
      listed = end_session_listed s session now is_quiet i.listed;
      ascending = end_session_ascending s session now is_quiet i.ascending;
      open_ids = end_session_open_ids s session now is_quiet i.open_ids;
      given = i.given;
      begun = i.begun;
      session_ids = end_session_session_ids s session now is_quiet i.session_ids;
      making_ids = end_session_making_ids s session now is_quiet i.making_ids;
      making_once = i.making_once;
      on_present = end_session_on_present s session now is_quiet i.on_present;
      on_made = end_session_on_made s session now is_quiet i.on_made;
      no_trees = end_session_no_trees s session now is_quiet i.no_trees;
      no_closed = end_session_no_closed s session now is_quiet i.no_closed;
      no_refused = end_session_no_refused s session now is_quiet i.no_refused;
      no_guids = end_session_no_guids s session now is_quiet i.no_guids;
      next_tree = end_session_next_tree s session now is_quiet i.next_tree;
      tree_ids = end_session_tree_ids s session now is_quiet i.tree_ids;
      range_owners = end_session_range_owners s session now is_quiet i.range_owners;
      not_root = i.not_root;
      root_stays = end_session_root_stays s session now is_quiet i.root_stays i.open_files i.listed i.file_numbers i.not_root;
      open_files = end_session_open_files s session now is_quiet i.open_files i.listed i.file_numbers i.not_root i.root_stays;
      next_file = i.next_file;
      file_numbers = end_session_file_numbers s session now is_quiet i.file_numbers i.open_files i.listed i.not_root i.root_stays;
      room = i.room;
      limit = i.limit;
    }
