-- Written by tools/law_server.py. An open that stands becomes a session's; a session keeps a refusal; a session keeps that an open was closed; a session is in the making, with the next id; a binding is in the making; a session begins that was in the making; a session that is there has a further connection; a session has a further tree; a session has a tree less; a connection is forgotten; an open without a session gets its deadline; a new epoch begins, in which no id was given; the configuration is another; what nothing here reads is other.
use Rattle.std.proofs.Common.{◌≡◌, inl, inr, ℕ, ◌+◌, ◌≤◌, ◌<◌, ◌==◌, Bool, true, false, if◌then◌else◌, List, [], ◌∷◌, ◌++◌, refl, arith, eqb-true, Option, Some, None, slice_get}
use Rattle.spec_exchange.specs.Table.{put, put2}
use Rattle.spec_exchange.specs.Commands.{Basic, SetupRequest}
use Rattle.spec_exchange.specs.State.{Server, Message, Open, Tree, Kept, NewSession, Binding, Address}
use Rattle.spec_exchange.specs.Files.{exists}
use Rattle.spec_exchange.specs.Opens.{max_ids}
use Rattle.spec_exchange.specs.Fold.{full_room}
use Rattle.spec_exchange.specs.Effects.{without_tree, next_session, add_tree, add_session, join_session, attach, keep_refusal}
use Rattle.spec_exchange.specs.Step.{first_deadline, with_deadlines, forget_connection}
use Rattle.law_server.specs.tables.Fits.{Fits, Attached, PlainAttached, Deadlines, OpenIds, Given, Begun, SessionIds, MakingIds, MakingOnce, OnPresent, OnMade, NoTrees, NoClosed, NoRefused, NoGuids, NextTree, TreeIds, Room}
use Rattle.law_server.proofs.tables.Lists.{pushed-from, without_tree-from}

attach_attached : (s : Server) (m : Message) (o : ℕ) → (s.standing o ≡ true) → (s.present m.session_id ≡ true) → Attached s → Attached (attach s m o)
unfolding exists
attach_attached s m o stands there i_attached =
    λ p x. let old = i_attached p x in grind arith

attach_plain_attached : (s : Server) (m : Message) (o : ℕ) → (s.standing o ≡ true) → (s.present m.session_id ≡ true) → PlainAttached s → PlainAttached (attach s m o)
unfolding exists
attach_plain_attached s m o stands there i_plain_attached =
    λ p. let old = i_plain_attached p in grind arith

attach_deadlines : (s : Server) (m : Message) (o : ℕ) → (s.standing o ≡ true) → (s.present m.session_id ≡ true) → Deadlines s → Deadlines (attach s m o)
unfolding exists
attach_deadlines s m o stands there i_deadlines =
    λ p d. let old = i_deadlines p d in grind arith

attach_no_guids : (s : Server) (m : Message) (o : ℕ) → (s.standing o ≡ true) → (s.present m.session_id ≡ true) → NoGuids s → NoGuids (attach s m o)
unfolding exists
attach_no_guids s m o stands there i_no_guids =
    λ x. let old = i_no_guids x in grind arith

-- an open that stands becomes a session's
pub attach_keeps : (s : Server) (m : Message) (o : ℕ) → (s.standing o ≡ true) → (s.present m.session_id ≡ true) → Fits s → Fits (attach s m o)
unfolding exists
attach_keeps s m o stands there i =
    record {
      attached = attach_attached s m o stands there i.attached;
      plain_attached = attach_plain_attached s m o stands there i.plain_attached;
      guid_open = i.guid_open;
      open_guid = i.open_guid;
      persistent_guid = i.persistent_guid;
      deadlines = attach_deadlines s m o stands there i.deadlines;
      listed = i.listed;
      ascending = i.ascending;
      open_ids = i.open_ids;
      given = i.given;
      begun = i.begun;
      session_ids = i.session_ids;
      making_ids = i.making_ids;
      making_once = i.making_once;
      on_present = i.on_present;
      on_made = i.on_made;
      no_trees = i.no_trees;
      no_closed = i.no_closed;
      no_refused = i.no_refused;
      no_guids = attach_no_guids s m o stands there i.no_guids;
      next_tree = i.next_tree;
      tree_ids = i.tree_ids;
      range_owners = i.range_owners;
      not_root = i.not_root;
      root_stays = i.root_stays;
      open_files = i.open_files;
      next_file = i.next_file;
      file_numbers = i.file_numbers;
      room = i.room;
      limit = i.limit;
    }

keep_refusal_no_refused : (s : Server) (session : ℕ) (guid : ℕ) (status : ℕ) → (s.present session ≡ true) → NoRefused s → NoRefused (keep_refusal s session guid status)
unfolding exists
keep_refusal_no_refused s session guid status there i_no_refused =
    λ x g. let old = i_no_refused x g in grind arith

keep_refusal_no_guids : (s : Server) (session : ℕ) (guid : ℕ) (status : ℕ) → (s.present session ≡ true) → NoGuids s → NoGuids (keep_refusal s session guid status)
unfolding exists
keep_refusal_no_guids s session guid status there i_no_guids =
    λ x. let old = i_no_guids x in grind arith

-- a session keeps a refusal
pub keep_refusal_keeps : (s : Server) (session : ℕ) (guid : ℕ) (status : ℕ) → (s.present session ≡ true) → Fits s → Fits (keep_refusal s session guid status)
unfolding exists
keep_refusal_keeps s session guid status there i =
    record {
      attached = i.attached;
      plain_attached = i.plain_attached;
      guid_open = i.guid_open;
      open_guid = i.open_guid;
      persistent_guid = i.persistent_guid;
      deadlines = i.deadlines;
      listed = i.listed;
      ascending = i.ascending;
      open_ids = i.open_ids;
      given = i.given;
      begun = i.begun;
      session_ids = i.session_ids;
      making_ids = i.making_ids;
      making_once = i.making_once;
      on_present = i.on_present;
      on_made = i.on_made;
      no_trees = i.no_trees;
      no_closed = i.no_closed;
      no_refused = keep_refusal_no_refused s session guid status there i.no_refused;
      no_guids = keep_refusal_no_guids s session guid status there i.no_guids;
      next_tree = i.next_tree;
      tree_ids = i.tree_ids;
      range_owners = i.range_owners;
      not_root = i.not_root;
      root_stays = i.root_stays;
      open_files = i.open_files;
      next_file = i.next_file;
      file_numbers = i.file_numbers;
      room = i.room;
      limit = i.limit;
    }

close_guid_no_closed : (s : Server) (session : ℕ) (guid : ℕ) → (s.present session ≡ true) → NoClosed s → NoClosed (record s { closed = put2 s.closed session guid true })
unfolding exists
close_guid_no_closed s session guid there i_no_closed =
    λ x g. let old = i_no_closed x g in grind arith

-- a session keeps that an open was closed
pub close_guid_keeps : (s : Server) (session : ℕ) (guid : ℕ) → (s.present session ≡ true) → Fits s → Fits (record s { closed = put2 s.closed session guid true })
unfolding exists
close_guid_keeps s session guid there i =
    record {
      attached = i.attached;
      plain_attached = i.plain_attached;
      guid_open = i.guid_open;
      open_guid = i.open_guid;
      persistent_guid = i.persistent_guid;
      deadlines = i.deadlines;
      listed = i.listed;
      ascending = i.ascending;
      open_ids = i.open_ids;
      given = i.given;
      begun = i.begun;
      session_ids = i.session_ids;
      making_ids = i.making_ids;
      making_once = i.making_once;
      on_present = i.on_present;
      on_made = i.on_made;
      no_trees = i.no_trees;
      no_closed = close_guid_no_closed s session guid there i.no_closed;
      no_refused = i.no_refused;
      no_guids = i.no_guids;
      next_tree = i.next_tree;
      tree_ids = i.tree_ids;
      range_owners = i.range_owners;
      not_root = i.not_root;
      root_stays = i.root_stays;
      open_files = i.open_files;
      next_file = i.next_file;
      file_numbers = i.file_numbers;
      room = i.room;
      limit = i.limit;
    }

challenge_begun : (s : Server) (line : ℕ) → (s.session_on line ≡ None) → (s.session_ids_given < max_ids) → Begun s → Begun (record s { session_ids_given = s.session_ids_given + 1; making = put s.making line (Some (NewSession (next_session s))) })
unfolding exists
challenge_begun s line off left i_begun =
    grind arith

challenge_session_ids : (s : Server) (line : ℕ) → (s.session_on line ≡ None) → (s.session_ids_given < max_ids) → SessionIds s → SessionIds (record s { session_ids_given = s.session_ids_given + 1; making = put s.making line (Some (NewSession (next_session s))) })
unfolding exists
challenge_session_ids s line off left i_session_ids =
    λ x. let old = i_session_ids x in grind arith

challenge_making_ids : (s : Server) (line : ℕ) → (s.session_on line ≡ None) → (s.session_ids_given < max_ids) → MakingIds s → SessionIds s → MakingIds (record s { session_ids_given = s.session_ids_given + 1; making = put s.making line (Some (NewSession (next_session s))) })
unfolding exists
challenge_making_ids s line off left i_making_ids i_session_ids =
    λ k x. let old = i_making_ids k x in grind arith

challenge_making_once : (s : Server) (line : ℕ) → (s.session_on line ≡ None) → (s.session_ids_given < max_ids) → MakingOnce s → MakingIds s → MakingOnce (record s { session_ids_given = s.session_ids_given + 1; making = put s.making line (Some (NewSession (next_session s))) })
unfolding exists
challenge_making_once s line off left i_making_once i_making_ids =
    λ j k x. let old = i_making_once j k x in let a = i_making_ids j x in let b = i_making_ids k x in grind arith

challenge_on_made : (s : Server) (line : ℕ) → (s.session_on line ≡ None) → (s.session_ids_given < max_ids) → OnMade s → OnMade (record s { session_ids_given = s.session_ids_given + 1; making = put s.making line (Some (NewSession (next_session s))) })
unfolding exists
challenge_on_made s line off left i_on_made =
    λ k x. let old = i_on_made k x in grind arith

-- a session is in the making, with the next id
pub challenge_keeps : (s : Server) (line : ℕ) → (s.session_on line ≡ None) → (s.session_ids_given < max_ids) → Fits s → Fits (record s { session_ids_given = s.session_ids_given + 1; making = put s.making line (Some (NewSession (next_session s))) })
unfolding exists
challenge_keeps s line off left i =
    record {
      attached = i.attached;
      plain_attached = i.plain_attached;
      guid_open = i.guid_open;
      open_guid = i.open_guid;
      persistent_guid = i.persistent_guid;
      deadlines = i.deadlines;
      listed = i.listed;
      ascending = i.ascending;
      open_ids = i.open_ids;
      given = i.given;
      begun = challenge_begun s line off left i.begun;
      session_ids = challenge_session_ids s line off left i.session_ids;
      making_ids = challenge_making_ids s line off left i.making_ids i.session_ids;
      making_once = challenge_making_once s line off left i.making_once i.making_ids;
      on_present = i.on_present;
      on_made = challenge_on_made s line off left i.on_made;
      no_trees = i.no_trees;
      no_closed = i.no_closed;
      no_refused = i.no_refused;
      no_guids = i.no_guids;
      next_tree = i.next_tree;
      tree_ids = i.tree_ids;
      range_owners = i.range_owners;
      not_root = i.not_root;
      root_stays = i.root_stays;
      open_files = i.open_files;
      next_file = i.next_file;
      file_numbers = i.file_numbers;
      room = i.room;
      limit = i.limit;
    }

bind_making_ids : (s : Server) (line : ℕ) (session : ℕ) → (s.session_on line ≡ None) → MakingIds s → MakingIds (record s { making = put s.making line (Some (Binding session)) })
unfolding exists
bind_making_ids s line session off i_making_ids =
    λ k x. let old = i_making_ids k x in grind arith

bind_making_once : (s : Server) (line : ℕ) (session : ℕ) → (s.session_on line ≡ None) → MakingOnce s → MakingOnce (record s { making = put s.making line (Some (Binding session)) })
unfolding exists
bind_making_once s line session off i_making_once =
    λ j k x. let old = i_making_once j k x in grind arith

bind_on_made : (s : Server) (line : ℕ) (session : ℕ) → (s.session_on line ≡ None) → OnMade s → OnMade (record s { making = put s.making line (Some (Binding session)) })
unfolding exists
bind_on_made s line session off i_on_made =
    λ k x. let old = i_on_made k x in grind arith

-- a binding is in the making
pub bind_keeps : (s : Server) (line : ℕ) (session : ℕ) → (s.session_on line ≡ None) → Fits s → Fits (record s { making = put s.making line (Some (Binding session)) })
unfolding exists
bind_keeps s line session off i =
    record {
      attached = i.attached;
      plain_attached = i.plain_attached;
      guid_open = i.guid_open;
      open_guid = i.open_guid;
      persistent_guid = i.persistent_guid;
      deadlines = i.deadlines;
      listed = i.listed;
      ascending = i.ascending;
      open_ids = i.open_ids;
      given = i.given;
      begun = i.begun;
      session_ids = i.session_ids;
      making_ids = bind_making_ids s line session off i.making_ids;
      making_once = bind_making_once s line session off i.making_once;
      on_present = i.on_present;
      on_made = bind_on_made s line session off i.on_made;
      no_trees = i.no_trees;
      no_closed = i.no_closed;
      no_refused = i.no_refused;
      no_guids = i.no_guids;
      next_tree = i.next_tree;
      tree_ids = i.tree_ids;
      range_owners = i.range_owners;
      not_root = i.not_root;
      root_stays = i.root_stays;
      open_files = i.open_files;
      next_file = i.next_file;
      file_numbers = i.file_numbers;
      room = i.room;
      limit = i.limit;
    }

add_session_attached : (s : Server) (m : Message) (user : List ℕ) (r : SetupRequest) → (s.present m.session_id ≡ false) → (s.making m.connection ≡ Some (NewSession m.session_id)) → Attached s → Attached (add_session s m user r)
unfolding exists
add_session_attached s m user r absent new i_attached =
    λ p x. let old = i_attached p x in grind arith

add_session_session_ids : (s : Server) (m : Message) (user : List ℕ) (r : SetupRequest) → (s.present m.session_id ≡ false) → (s.making m.connection ≡ Some (NewSession m.session_id)) → SessionIds s → MakingIds s → SessionIds (add_session s m user r)
unfolding exists
add_session_session_ids s m user r absent new i_session_ids i_making_ids =
    λ x. let old = i_session_ids x in grind arith

add_session_making_ids : (s : Server) (m : Message) (user : List ℕ) (r : SetupRequest) → (s.present m.session_id ≡ false) → (s.making m.connection ≡ Some (NewSession m.session_id)) → MakingIds s → MakingOnce s → MakingIds (add_session s m user r)
unfolding exists
add_session_making_ids s m user r absent new i_making_ids i_making_once =
    λ k x. let old = i_making_ids k x in grind arith

add_session_making_once : (s : Server) (m : Message) (user : List ℕ) (r : SetupRequest) → (s.present m.session_id ≡ false) → (s.making m.connection ≡ Some (NewSession m.session_id)) → MakingOnce s → MakingOnce (add_session s m user r)
unfolding exists
add_session_making_once s m user r absent new i_making_once =
    λ j k x. let old = i_making_once j k x in grind arith

add_session_on_present : (s : Server) (m : Message) (user : List ℕ) (r : SetupRequest) → (s.present m.session_id ≡ false) → (s.making m.connection ≡ Some (NewSession m.session_id)) → OnPresent s → OnPresent (add_session s m user r)
unfolding exists
add_session_on_present s m user r absent new i_on_present =
    λ k x. let old = i_on_present k x in grind arith

add_session_on_made : (s : Server) (m : Message) (user : List ℕ) (r : SetupRequest) → (s.present m.session_id ≡ false) → (s.making m.connection ≡ Some (NewSession m.session_id)) → OnMade s → OnMade (add_session s m user r)
unfolding exists
add_session_on_made s m user r absent new i_on_made =
    λ k x. let old = i_on_made k x in grind arith

add_session_no_trees : (s : Server) (m : Message) (user : List ℕ) (r : SetupRequest) → (s.present m.session_id ≡ false) → (s.making m.connection ≡ Some (NewSession m.session_id)) → NoTrees s → NoTrees (add_session s m user r)
unfolding exists
add_session_no_trees s m user r absent new i_no_trees =
    λ x. let old = i_no_trees x in grind arith

add_session_no_closed : (s : Server) (m : Message) (user : List ℕ) (r : SetupRequest) → (s.present m.session_id ≡ false) → (s.making m.connection ≡ Some (NewSession m.session_id)) → NoClosed s → NoClosed (add_session s m user r)
unfolding exists
add_session_no_closed s m user r absent new i_no_closed =
    λ x g. let old = i_no_closed x g in grind arith

add_session_no_refused : (s : Server) (m : Message) (user : List ℕ) (r : SetupRequest) → (s.present m.session_id ≡ false) → (s.making m.connection ≡ Some (NewSession m.session_id)) → NoRefused s → NoRefused (add_session s m user r)
unfolding exists
add_session_no_refused s m user r absent new i_no_refused =
    λ x g. let old = i_no_refused x g in grind arith

add_session_no_guids : (s : Server) (m : Message) (user : List ℕ) (r : SetupRequest) → (s.present m.session_id ≡ false) → (s.making m.connection ≡ Some (NewSession m.session_id)) → NoGuids s → NoGuids (add_session s m user r)
unfolding exists
add_session_no_guids s m user r absent new i_no_guids =
    λ x. let old = i_no_guids x in grind arith

add_session_next_tree : (s : Server) (m : Message) (user : List ℕ) (r : SetupRequest) → (s.present m.session_id ≡ false) → (s.making m.connection ≡ Some (NewSession m.session_id)) → NextTree s → NextTree (add_session s m user r)
unfolding exists
add_session_next_tree s m user r absent new i_next_tree =
    λ x. let old = i_next_tree x in grind arith

add_session_tree_ids : (s : Server) (m : Message) (user : List ℕ) (r : SetupRequest) → (s.present m.session_id ≡ false) → (s.making m.connection ≡ Some (NewSession m.session_id)) → TreeIds s → TreeIds (add_session s m user r)
unfolding exists
add_session_tree_ids s m user r absent new i_tree_ids =
    λ x n t. let old = i_tree_ids x n t in grind arith

-- a session begins that was in the making
pub add_session_keeps : (s : Server) (m : Message) (user : List ℕ) (r : SetupRequest) → (s.present m.session_id ≡ false) → (s.making m.connection ≡ Some (NewSession m.session_id)) → Fits s → Fits (add_session s m user r)
unfolding exists
add_session_keeps s m user r absent new i =
    record {
      attached = add_session_attached s m user r absent new i.attached;
      plain_attached = i.plain_attached;
      guid_open = i.guid_open;
      open_guid = i.open_guid;
      persistent_guid = i.persistent_guid;
      deadlines = i.deadlines;
      listed = i.listed;
      ascending = i.ascending;
      open_ids = i.open_ids;
      given = i.given;
      begun = i.begun;
      session_ids = add_session_session_ids s m user r absent new i.session_ids i.making_ids;
      making_ids = add_session_making_ids s m user r absent new i.making_ids i.making_once;
      making_once = add_session_making_once s m user r absent new i.making_once;
      on_present = add_session_on_present s m user r absent new i.on_present;
      on_made = add_session_on_made s m user r absent new i.on_made;
      no_trees = add_session_no_trees s m user r absent new i.no_trees;
      no_closed = add_session_no_closed s m user r absent new i.no_closed;
      no_refused = add_session_no_refused s m user r absent new i.no_refused;
      no_guids = add_session_no_guids s m user r absent new i.no_guids;
      next_tree = add_session_next_tree s m user r absent new i.next_tree;
      tree_ids = add_session_tree_ids s m user r absent new i.tree_ids;
      range_owners = i.range_owners;
      not_root = i.not_root;
      root_stays = i.root_stays;
      open_files = i.open_files;
      next_file = i.next_file;
      file_numbers = i.file_numbers;
      room = i.room;
      limit = i.limit;
    }

join_session_making_ids : (s : Server) (m : Message) (session : ℕ) → (s.present session ≡ true) → MakingIds s → MakingIds (join_session s m session)
unfolding exists
join_session_making_ids s m session there i_making_ids =
    λ k x. let old = i_making_ids k x in grind arith

join_session_making_once : (s : Server) (m : Message) (session : ℕ) → (s.present session ≡ true) → MakingOnce s → MakingOnce (join_session s m session)
unfolding exists
join_session_making_once s m session there i_making_once =
    λ j k x. let old = i_making_once j k x in grind arith

join_session_on_present : (s : Server) (m : Message) (session : ℕ) → (s.present session ≡ true) → OnPresent s → OnPresent (join_session s m session)
unfolding exists
join_session_on_present s m session there i_on_present =
    λ k x. let old = i_on_present k x in grind arith

join_session_on_made : (s : Server) (m : Message) (session : ℕ) → (s.present session ≡ true) → OnMade s → OnMade (join_session s m session)
unfolding exists
join_session_on_made s m session there i_on_made =
    λ k x. let old = i_on_made k x in grind arith

-- a session that is there has a further connection
pub join_session_keeps : (s : Server) (m : Message) (session : ℕ) → (s.present session ≡ true) → Fits s → Fits (join_session s m session)
unfolding exists
join_session_keeps s m session there i =
    record {
      attached = i.attached;
      plain_attached = i.plain_attached;
      guid_open = i.guid_open;
      open_guid = i.open_guid;
      persistent_guid = i.persistent_guid;
      deadlines = i.deadlines;
      listed = i.listed;
      ascending = i.ascending;
      open_ids = i.open_ids;
      given = i.given;
      begun = i.begun;
      session_ids = i.session_ids;
      making_ids = join_session_making_ids s m session there i.making_ids;
      making_once = join_session_making_once s m session there i.making_once;
      on_present = join_session_on_present s m session there i.on_present;
      on_made = join_session_on_made s m session there i.on_made;
      no_trees = i.no_trees;
      no_closed = i.no_closed;
      no_refused = i.no_refused;
      no_guids = i.no_guids;
      next_tree = i.next_tree;
      tree_ids = i.tree_ids;
      range_owners = i.range_owners;
      not_root = i.not_root;
      root_stays = i.root_stays;
      open_files = i.open_files;
      next_file = i.next_file;
      file_numbers = i.file_numbers;
      room = i.room;
      limit = i.limit;
    }

added_tree : (s : Server) (session : ℕ) (pipes : Bool) (x n : ℕ) (t : Tree) → s.present session ≡ true → TreeIds s
    → NextTree s → (b : Bool) → (x == session) ≡ b
    → slice_get (if b then s.trees session ++ record { id = s.next_tree session; pipes = pipes } ∷ [] else s.trees x) n
    ≡ Some t → 0 < t.id × t.id < (if b then s.next_tree session + 1 else s.next_tree x)
added_tree s session pipes x n t there old next true e h = elim
    (pushed-from (s.trees session) (record { id = s.next_tree session; pipes = pipes }) n t h) [
      | inl q ↦ let above = next session there in grind arith
      | inr a ↦ let was = old session a.0 t a.1 in grind arith
    ]
added_tree s session pipes x n t there old next false e h = old x n t h

add_tree_no_trees : (s : Server) (session : ℕ) (pipes : Bool) → (s.present session ≡ true) → NoTrees s → NoTrees (add_tree s session pipes)
unfolding exists
add_tree_no_trees s session pipes there i_no_trees =
    λ x. let old = i_no_trees x in grind arith

add_tree_next_tree : (s : Server) (session : ℕ) (pipes : Bool) → (s.present session ≡ true) → NextTree s → NextTree (add_tree s session pipes)
unfolding exists
add_tree_next_tree s session pipes there i_next_tree =
    λ x. let old = i_next_tree x in grind arith

add_tree_tree_ids : (s : Server) (session : ℕ) (pipes : Bool) → (s.present session ≡ true) → TreeIds s → NextTree s → TreeIds (add_tree s session pipes)
unfolding exists
add_tree_tree_ids s session pipes there i_tree_ids i_next_tree =
    λ x n t. added_tree s session pipes x n t there i_tree_ids i_next_tree (x == session) refl

-- a session has a further tree
pub add_tree_keeps : (s : Server) (session : ℕ) (pipes : Bool) → (s.present session ≡ true) → Fits s → Fits (add_tree s session pipes)
unfolding exists
add_tree_keeps s session pipes there i =
    record {
      attached = i.attached;
      plain_attached = i.plain_attached;
      guid_open = i.guid_open;
      open_guid = i.open_guid;
      persistent_guid = i.persistent_guid;
      deadlines = i.deadlines;
      listed = i.listed;
      ascending = i.ascending;
      open_ids = i.open_ids;
      given = i.given;
      begun = i.begun;
      session_ids = i.session_ids;
      making_ids = i.making_ids;
      making_once = i.making_once;
      on_present = i.on_present;
      on_made = i.on_made;
      no_trees = add_tree_no_trees s session pipes there i.no_trees;
      no_closed = i.no_closed;
      no_refused = i.no_refused;
      no_guids = i.no_guids;
      next_tree = add_tree_next_tree s session pipes there i.next_tree;
      tree_ids = add_tree_tree_ids s session pipes there i.tree_ids i.next_tree;
      range_owners = i.range_owners;
      not_root = i.not_root;
      root_stays = i.root_stays;
      open_files = i.open_files;
      next_file = i.next_file;
      file_numbers = i.file_numbers;
      room = i.room;
      limit = i.limit;
    }

no_tree : (id : ℕ) → without_tree id [] ≡ []
unfolding without_tree
no_tree id = refl

dropped_tree : (s : Server) (session id x n : ℕ) (t : Tree) → TreeIds s → (b : Bool) → (x == session) ≡ b
    → slice_get (if b then without_tree id (s.trees session) else s.trees x) n ≡ Some t → 0 < t.id × t.id < s.next_tree x
dropped_tree s session id x n t old true e h = let f = without_tree-from id (s.trees session) n t h in let was = old
    session f.1.0 t f.1.1 in let same = eqb-true x session e in grind arith
dropped_tree s session id x n t old false e h = old x n t h

less_tree_no_trees : (s : Server) (session : ℕ) (id : ℕ) → NoTrees s → NoTrees (record s { trees = put s.trees session (without_tree id (s.trees session)) })
unfolding exists
less_tree_no_trees s session id i_no_trees =
    λ x. let old = i_no_trees x in let none : without_tree id [] ≡ [] = no_tree id in grind arith

less_tree_tree_ids : (s : Server) (session : ℕ) (id : ℕ) → TreeIds s → TreeIds (record s { trees = put s.trees session (without_tree id (s.trees session)) })
unfolding exists
less_tree_tree_ids s session id i_tree_ids =
    λ x n t. dropped_tree s session id x n t i_tree_ids (x == session) refl

-- a session has a tree less
pub less_tree_keeps : (s : Server) (session : ℕ) (id : ℕ) → Fits s → Fits (record s { trees = put s.trees session (without_tree id (s.trees session)) })
unfolding exists
less_tree_keeps s session id i =
    record {
      attached = i.attached;
      plain_attached = i.plain_attached;
      guid_open = i.guid_open;
      open_guid = i.open_guid;
      persistent_guid = i.persistent_guid;
      deadlines = i.deadlines;
      listed = i.listed;
      ascending = i.ascending;
      open_ids = i.open_ids;
      given = i.given;
      begun = i.begun;
      session_ids = i.session_ids;
      making_ids = i.making_ids;
      making_once = i.making_once;
      on_present = i.on_present;
      on_made = i.on_made;
      no_trees = less_tree_no_trees s session id i.no_trees;
      no_closed = i.no_closed;
      no_refused = i.no_refused;
      no_guids = i.no_guids;
      next_tree = i.next_tree;
      tree_ids = less_tree_tree_ids s session id i.tree_ids;
      range_owners = i.range_owners;
      not_root = i.not_root;
      root_stays = i.root_stays;
      open_files = i.open_files;
      next_file = i.next_file;
      file_numbers = i.file_numbers;
      room = i.room;
      limit = i.limit;
    }

forget_making_ids : (s : Server) (line : ℕ) → MakingIds s → MakingIds (forget_connection s line)
unfolding exists
forget_making_ids s line i_making_ids =
    λ k x. let old = i_making_ids k x in grind arith

forget_making_once : (s : Server) (line : ℕ) → MakingOnce s → MakingOnce (forget_connection s line)
unfolding exists
forget_making_once s line i_making_once =
    λ j k x. let old = i_making_once j k x in grind arith

forget_on_present : (s : Server) (line : ℕ) → OnPresent s → OnPresent (forget_connection s line)
unfolding exists
forget_on_present s line i_on_present =
    λ k x. let old = i_on_present k x in grind arith

forget_on_made : (s : Server) (line : ℕ) → OnMade s → OnMade (forget_connection s line)
unfolding exists
forget_on_made s line i_on_made =
    λ k x. let old = i_on_made k x in grind arith

-- a connection is forgotten
pub forget_keeps : (s : Server) (line : ℕ) → Fits s → Fits (forget_connection s line)
unfolding exists
forget_keeps s line i =
    record {
      attached = i.attached;
      plain_attached = i.plain_attached;
      guid_open = i.guid_open;
      open_guid = i.open_guid;
      persistent_guid = i.persistent_guid;
      deadlines = i.deadlines;
      listed = i.listed;
      ascending = i.ascending;
      open_ids = i.open_ids;
      given = i.given;
      begun = i.begun;
      session_ids = i.session_ids;
      making_ids = forget_making_ids s line i.making_ids;
      making_once = forget_making_once s line i.making_once;
      on_present = forget_on_present s line i.on_present;
      on_made = forget_on_made s line i.on_made;
      no_trees = i.no_trees;
      no_closed = i.no_closed;
      no_refused = i.no_refused;
      no_guids = i.no_guids;
      next_tree = i.next_tree;
      tree_ids = i.tree_ids;
      range_owners = i.range_owners;
      not_root = i.not_root;
      root_stays = i.root_stays;
      open_files = i.open_files;
      next_file = i.next_file;
      file_numbers = i.file_numbers;
      room = i.room;
      limit = i.limit;
    }

dated_first : (now : ℕ) (stands : Bool) (at : Option ℕ) (row : Open) (deadline : Option ℕ) (d : ℕ)
    → ((e : ℕ) → deadline ≡ Some e → at ≡ None) → first_deadline now stands at row deadline ≡ Some d → at ≡ None
dated_first now stands None row deadline d old h = refl
dated_first now true (Some x) row deadline d old h = old d h
dated_first now false (Some x) row deadline d old h = old d h

deadlines_deadlines : (s : Server) (now : ℕ) → Deadlines s → Deadlines (with_deadlines s now)
unfolding exists
deadlines_deadlines s now i_deadlines =
    λ p d. dated_first now (s.standing p) (s.session_of_open p) (s.opened p) (s.deadline p) d (i_deadlines p)

-- an open without a session gets its deadline
pub deadlines_keeps : (s : Server) (now : ℕ) → Fits s → Fits (with_deadlines s now)
unfolding exists
deadlines_keeps s now i =
    record {
      attached = i.attached;
      plain_attached = i.plain_attached;
      guid_open = i.guid_open;
      open_guid = i.open_guid;
      persistent_guid = i.persistent_guid;
      deadlines = deadlines_deadlines s now i.deadlines;
      listed = i.listed;
      ascending = i.ascending;
      open_ids = i.open_ids;
      given = i.given;
      begun = i.begun;
      session_ids = i.session_ids;
      making_ids = i.making_ids;
      making_once = i.making_once;
      on_present = i.on_present;
      on_made = i.on_made;
      no_trees = i.no_trees;
      no_closed = i.no_closed;
      no_refused = i.no_refused;
      no_guids = i.no_guids;
      next_tree = i.next_tree;
      tree_ids = i.tree_ids;
      range_owners = i.range_owners;
      not_root = i.not_root;
      root_stays = i.root_stays;
      open_files = i.open_files;
      next_file = i.next_file;
      file_numbers = i.file_numbers;
      room = i.room;
      limit = i.limit;
    }

epoch_open_ids : (s : Server) (number : ℕ) → (number ≡ s.epoch + 1) → OpenIds s → Given s → OpenIds (record s { epoch = number; open_ids_given = 0; session_ids_given = 0 })
unfolding exists
epoch_open_ids s number next i_open_ids i_given =
    λ p. let old = i_open_ids p in grind arith

epoch_given : (s : Server) (number : ℕ) → (number ≡ s.epoch + 1) → Given s → Given (record s { epoch = number; open_ids_given = 0; session_ids_given = 0 })
unfolding exists
epoch_given s number next i_given =
    grind arith

epoch_begun : (s : Server) (number : ℕ) → (number ≡ s.epoch + 1) → Begun s → Begun (record s { epoch = number; open_ids_given = 0; session_ids_given = 0 })
unfolding exists
epoch_begun s number next i_begun =
    grind arith

epoch_session_ids : (s : Server) (number : ℕ) → (number ≡ s.epoch + 1) → SessionIds s → Begun s → SessionIds (record s { epoch = number; open_ids_given = 0; session_ids_given = 0 })
unfolding exists
epoch_session_ids s number next i_session_ids i_begun =
    λ x. let old = i_session_ids x in grind arith

epoch_making_ids : (s : Server) (number : ℕ) → (number ≡ s.epoch + 1) → MakingIds s → Begun s → MakingIds (record s { epoch = number; open_ids_given = 0; session_ids_given = 0 })
unfolding exists
epoch_making_ids s number next i_making_ids i_begun =
    λ k x. let old = i_making_ids k x in grind arith

-- a new epoch begins, in which no id was given
pub epoch_keeps : (s : Server) (number : ℕ) → (number ≡ s.epoch + 1) → Fits s → Fits (record s { epoch = number; open_ids_given = 0; session_ids_given = 0 })
unfolding exists
epoch_keeps s number next i =
    record {
      attached = i.attached;
      plain_attached = i.plain_attached;
      guid_open = i.guid_open;
      open_guid = i.open_guid;
      persistent_guid = i.persistent_guid;
      deadlines = i.deadlines;
      listed = i.listed;
      ascending = i.ascending;
      open_ids = epoch_open_ids s number next i.open_ids i.given;
      given = epoch_given s number next i.given;
      begun = epoch_begun s number next i.begun;
      session_ids = epoch_session_ids s number next i.session_ids i.begun;
      making_ids = epoch_making_ids s number next i.making_ids i.begun;
      making_once = i.making_once;
      on_present = i.on_present;
      on_made = i.on_made;
      no_trees = i.no_trees;
      no_closed = i.no_closed;
      no_refused = i.no_refused;
      no_guids = i.no_guids;
      next_tree = i.next_tree;
      tree_ids = i.tree_ids;
      range_owners = i.range_owners;
      not_root = i.not_root;
      root_stays = i.root_stays;
      open_files = i.open_files;
      next_file = i.next_file;
      file_numbers = i.file_numbers;
      room = i.room;
      limit = i.limit;
    }

configured_room : (s : Server) (share : List ℕ) (room : ℕ) (seals : Bool) (address : Address) (journal : ℕ) → (room ≤ full_room) → Room s → Room (record s { share = share; room = room; encrypts = seals; address = address; journal = journal })
unfolding exists
configured_room s share room seals address journal small i_room =
    small

-- the configuration is another
pub configured_keeps : (s : Server) (share : List ℕ) (room : ℕ) (seals : Bool) (address : Address) (journal : ℕ) → (room ≤ full_room) → Fits s → Fits (record s { share = share; room = room; encrypts = seals; address = address; journal = journal })
unfolding exists
configured_keeps s share room seals address journal small i =
    record {
      attached = i.attached;
      plain_attached = i.plain_attached;
      guid_open = i.guid_open;
      open_guid = i.open_guid;
      persistent_guid = i.persistent_guid;
      deadlines = i.deadlines;
      listed = i.listed;
      ascending = i.ascending;
      open_ids = i.open_ids;
      given = i.given;
      begun = i.begun;
      session_ids = i.session_ids;
      making_ids = i.making_ids;
      making_once = i.making_once;
      on_present = i.on_present;
      on_made = i.on_made;
      no_trees = i.no_trees;
      no_closed = i.no_closed;
      no_refused = i.no_refused;
      no_guids = i.no_guids;
      next_tree = i.next_tree;
      tree_ids = i.tree_ids;
      range_owners = i.range_owners;
      not_root = i.not_root;
      root_stays = i.root_stays;
      open_files = i.open_files;
      next_file = i.next_file;
      file_numbers = i.file_numbers;
      room = configured_room s share room seals address journal small i.room;
      limit = i.limit;
    }

-- what nothing here reads is other
pub unread_keeps : (s : Server) (sequence : ℕ → ℕ) (slots : ℕ → ℕ → Option Kept) (listed : ℕ → Option (List ℕ)) (offset : ℕ → ℕ) (content : ℕ → List ℕ) (basic : ℕ → Basic) (connections : List ℕ) (expired_guids : ℕ → ℕ → Bool) (expired_count : ℕ) (version : ℕ) (journal : ℕ) → Fits s → Fits (record s { sequence = sequence; lock_sequences = slots; enumeration_location = listed; current_byte_offset = offset; content = content; basic = basic; connections = connections; expired_guids = expired_guids; expired_count = expired_count; version = version; journal = journal })
unfolding exists
unread_keeps s sequence slots listed offset content basic connections expired_guids expired_count version journal i =
    record {
      attached = i.attached;
      plain_attached = i.plain_attached;
      guid_open = i.guid_open;
      open_guid = i.open_guid;
      persistent_guid = i.persistent_guid;
      deadlines = i.deadlines;
      listed = i.listed;
      ascending = i.ascending;
      open_ids = i.open_ids;
      given = i.given;
      begun = i.begun;
      session_ids = i.session_ids;
      making_ids = i.making_ids;
      making_once = i.making_once;
      on_present = i.on_present;
      on_made = i.on_made;
      no_trees = i.no_trees;
      no_closed = i.no_closed;
      no_refused = i.no_refused;
      no_guids = i.no_guids;
      next_tree = i.next_tree;
      tree_ids = i.tree_ids;
      range_owners = i.range_owners;
      not_root = i.not_root;
      root_stays = i.root_stays;
      open_files = i.open_files;
      next_file = i.next_file;
      file_numbers = i.file_numbers;
      room = i.room;
      limit = i.limit;
    }
