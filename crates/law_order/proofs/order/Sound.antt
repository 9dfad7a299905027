-- What the checks have looked at, by their verdict.
use Rattle.std.proofs.Common.{◌≡◌, ℕ, ◌==◌, nat_le, nat_lt, ◌+◌, Bool, true, false, not, ◌&&◌, ◌||◌, List, [], ◌∷◌}
use Rattle.std.proofs.Common.{refl, Option, Some, None, is_some, length}
use Rattle.spec_exchange.specs.Table.{is_at}
use Rattle.spec_exchange.specs.Status.{success, disk_full, object_name_not_found}
use Rattle.spec_exchange.specs.Commands.{Command, Aside, Unreadable, Setup, Logoff, TreeConnect, TreeDisconnect, Create}
use Rattle.spec_exchange.specs.Commands.{Close, Flush, Read, Write, Lock, Ioctl, ListDirectory, QueryFile, QueryVolume}
use Rattle.spec_exchange.specs.Commands.{SetInfo, CreateRequest, Durable, Reconnect, SetupRequest, Shows, Begins, Bad}
use Rattle.spec_exchange.specs.Commands.{Refused, Logon, Setting, SetBasic, Rename, SetDelete, SetAllocation, SetEnd}
use Rattle.spec_exchange.specs.Commands.{SetPosition, SetMode}
use Rattle.spec_exchange.specs.Commands.{Element, form, is_setup, no_file}
use Rattle.spec_exchange.specs.State.{Server, Message, Body, Empty, Named}
use Rattle.spec_exchange.specs.Ranges.{RangeAnswer, Stands, Denied}
use Rattle.spec_exchange.specs.Opens.{is_of_session, is_of_tree}
use Rattle.spec_exchange.specs.Files.{find}
use Rattle.spec_exchange.specs.Verdict.{Verdict, Refuse, Give, KeepRefusal, Repeat, Attach, Make, TurnDown, Tell, Show}
use Rattle.spec_exchange.specs.Verdict.{KeepSlot, PutRanges, Alter, CloseOpen, Challenge, ChallengeBinding, Begin, Join}
use Rattle.spec_exchange.specs.Verdict.{EndSession, AddTree, DropTree, Change, PutBasic, PutDeletePending, PutEnd}
use Rattle.spec_exchange.specs.CheckCreate.{refused_by, after_names, new_check, live_check, refusal_check, guid_check}
use Rattle.spec_exchange.specs.CheckCreate.{reconnect_check, durable_check, reconnect_or_create}
use Rattle.spec_exchange.specs.CheckOpen.{is_late, write_check, read_check, turn_down_lock, range_check, slot_check}
use Rattle.spec_exchange.specs.CheckOpen.{named_change, size_change, setting_check, set_check, listing_of, ioctl_check}
use Rattle.spec_exchange.specs.CheckOpen.{free_ioctl_check, is_repeated, unless_repeated, path_change, bytes_change}
use Rattle.spec_exchange.specs.CheckSetup.{is_new, session_check, second_token, first_token, granted_session}
use Rattle.spec_exchange.specs.CheckSetup.{setup_check, binding_check, live_binding, binding_token, second_binding}
use Rattle.spec_exchange.specs.CheckSetup.{first_binding, tree_check, tree_in, no_tree_left}
use Rattle.spec_exchange.specs.Check.{has_session, on_open, tree_command, in_tree, with_tree, command_check, formed, owed, check}
use Rattle.spec_exchange.specs.Step.{without_room}
use Rattle.spec_exchange.specs.Commands.{deletes_on_close}
use Rattle.spec_exchange.specs.Texts.{same_name}
use Rattle.spec_exchange.specs.Content.{is_empty}
use Rattle.spec_exchange.specs.Files.{is_directory, passes_room, path_of, set_basic, allocated}
use Rattle.spec_exchange.specs.Ranges.{may_read, may_write}
use Rattle.spec_exchange.specs.Opens.{mapped, deletes, max_ids}
use Rattle.spec_exchange.specs.Listing.{file_info_size, volume_info_size}
use Rattle.spec_exchange.specs.CheckCreate.{shares, keeps_guid, max_guids, is_counted_out, has_guid}
use Rattle.spec_exchange.specs.CheckOpen.{file_of, has_access, there, is_slot, get_object_id, ioctl_status, needs_attributes}
use Rattle.spec_exchange.specs.CheckOpen.{kept_lock, rename_names, delete_names, allocation_change}
use Rattle.spec_exchange.specs.CheckOpen.{basic_names}
use Rattle.spec_exchange.specs.CheckSetup.{max_sessions, max_channels, max_numbers, count_channels, is_binding, pipes_name}
use Rattle.law_server.proofs.tables.Logic.{either, front_of, not_false}

-- an open stands in the message's session, a changing request isn't late, a given guid names its open, an attached open
-- stands, and a session that begins was in the making on the connection
abbrev pub SoundBy : Server → Message → Verdict → Type 0
SoundBy s m (Refuse status) = Unit {0}
SoundBy s m (Give body) = Unit {0}
SoundBy s m (KeepRefusal guid status) = Unit {0}
SoundBy s m (Repeat o r) = (guid : ℕ) × (s.by_guid m.client_guid guid ≡ Some o)
SoundBy s m (Attach o r) = s.standing o ≡ true
SoundBy s m (Make r found action) = Unit {0}
SoundBy s m (TurnDown o status) = is_of_session s o m.session_id ≡ true
SoundBy s m (Tell o body) = is_of_session s o m.session_id ≡ true
SoundBy s m (Show o last body) = is_of_session s o m.session_id ≡ true
SoundBy s m (KeepSlot o index number status elements) = is_of_session s o m.session_id ≡ true
SoundBy s m (PutRanges o index number ranges elements) = is_of_session s o m.session_id ≡ true
SoundBy s m (Alter o change body) = (is_of_session s o m.session_id ≡ true) × (is_late s m o ≡ false)
SoundBy s m (CloseOpen o body) = is_of_session s o m.session_id ≡ true
SoundBy s m Challenge = Unit {0}
SoundBy s m (ChallengeBinding session) = Unit {0}
SoundBy s m (Begin session user previous request is_quiet) = (is_new m.session_id (s.making m.connection) ≡ true) × (session ≡ m.session_id)
SoundBy s m (Join session) = Unit {0}
SoundBy s m (EndSession session is_quiet) = Unit {0}
SoundBy s m (AddTree pipes) = Unit {0}
SoundBy s m DropTree = Unit {0}

pub record Sound (s : Server) (m : Message) (v : Verdict) : Type 0 where
  pub is : SoundBy s m v

-- ---- CREATE

refused_by_sound : (s : Server) (m : Message) (d : Option Durable) (status : ℕ) → Sound s m (refused_by d status)
refused_by_sound s m None status = record { is = tt }
refused_by_sound s m (Some d) status = record { is = tt }

names_sound : (s : Server) (m : Message) (r : CreateRequest) (found names : Option ℕ) → Sound s m (after_names s r found names)
names_sound s m r found (Some status) = refused_by_sound s m r.durable status
names_sound s m r found None = either (Sound s m) (shares s r found) _ _ (λ _. record { is = tt }) (λ _. refused_by_sound s m r.durable _)

new_sound : (s : Server) (m : Message) (r : CreateRequest) (found : Option ℕ) → Sound s m (new_check s m r found)
new_sound s m r found =
    either (Sound s m) (deletes_on_close r.options && not (deletes (mapped r.access))) _ _ (λ _. record {
      is = tt;
    }) (λ _. either (Sound s m) (keeps_guid r && nat_le max_guids (s.guids m.session_id)) _ _ (λ _. record {
      is = tt;
    }) (λ _. either (Sound s m) (is_counted_out s r found) _ _ (λ _. refused_by_sound s m r.durable _)
    (λ _. names_sound s m r found _)))

live_sound : (s : Server) (m : Message) (r : CreateRequest) (guid o : ℕ) → s.by_guid m.client_guid guid ≡ Some o
    → Sound s m (live_check s m r o)
live_sound s m r guid o e =
    either (Sound s m) (not m.replay) _ _ (λ _. record {
      is = tt;
    }) (λ _. either (Sound s m) (is_at m.session_id (s.session_of_open o)) _ _ (λ _. record {
      is = (guid, e);
    }) (λ _. either (Sound s m) (is_some (s.session_of_open o) || not (s.opened o).persistent) _ _
    (λ _. record { is = tt }) (λ _. either (Sound s m) (same_name (s.opened o).user (s.user m.session_id)) _ _
    (λ _. record { is = (guid, e) }) (λ _. record { is = tt }))))

refusal_sound : (s : Server) (m : Message) (r : CreateRequest) (kept : Option ℕ) → Sound s m (refusal_check s m r kept)
refusal_sound s m r (Some status) = record { is = tt }
refusal_sound s m r None = new_sound s m r (find s r.path)

guid_sound : (s : Server) (m : Message) (r : CreateRequest) (d : Durable) (o : Option ℕ) → s.by_guid m.client_guid
    d.guid ≡ o → Sound s m (guid_check s m r d o)
guid_sound s m r d (Some o) e = live_sound s m r d.guid o e
guid_sound s m r d None e = either (Sound s m) (s.closed m.session_id d.guid) _ _ (λ _. record {
  is = tt;
}) (λ _. either (Sound s m) (s.expired_guids m.client_guid d.guid) _ _ (λ _. record {
  is = tt;
}) (λ _. refusal_sound s m r _))

reconnect_sound : (s : Server) (m : Message) (r : CreateRequest) (c : Reconnect) → Sound s m (reconnect_check s m r c)
reconnect_sound s m r c =
    either (Sound s m) (not (s.standing c.file && has_guid c.guid (s.opened c.file).create_guid)) _ _ (λ _. record {
      is = tt;
    }) (λ e. either (Sound s m) (not (same_name (s.opened c.file).user (s.user m.session_id))) _ _
    (λ _. record { is = tt }) (λ _. either (Sound s m) (is_some (s.session_of_open c.file)
    && not (is_at m.session_id (s.session_of_open c.file))) _ _ (λ _. record { is = tt }) (λ _. record {
      is = front_of _ _ (not_false _ e);
    })))

durable_sound : (s : Server) (m : Message) (r : CreateRequest) (d : Option Durable) → Sound s m (durable_check s m r d)
durable_sound s m r None = new_sound s m r (find s r.path)
durable_sound s m r (Some d) = guid_sound s m r d _ refl

create_sound : (s : Server) (m : Message) (r : CreateRequest) (c : Option Reconnect) → Sound s m (reconnect_or_create s m r c)
create_sound s m r (Some c) = reconnect_sound s m r c
create_sound s m r None = durable_sound s m r r.durable

-- ---- requests on an open

abbrev On : Server → Message → ℕ → Type 0
On s m o = is_of_session s o m.session_id ≡ true

open_sound : (s : Server) (m : Message) (o : ℕ) (v : Verdict) → (On s m o → Sound s m v) → Sound s m (on_open s m o v)
open_sound s m o v f = either (Sound s m) (is_of_tree s o m.session_id m.tree_id) _ _
    (λ on. f (front_of (is_of_session s o m.session_id) _ on)) (λ _. record { is = tt })

alter_sound : (s : Server) (m : Message) (o : ℕ) (change : Change) (body : Body) → On s m o → is_late s m o ≡ false
    → Sound s m (Alter o change body)
alter_sound s m o change body on t = record { is = (on, t) }

unrepeated : (s : Server) (m : Message) (o : ℕ) (change : Change) (v : Verdict) → On s m o → Sound s m v
    → Sound s m (unless_repeated s m o change v)
unrepeated s m o change v on f = either (Sound s m) (is_repeated s m o change) (Tell o Empty) v (λ _. record { is = on }) (λ _. f)

write_sound : (s : Server) (m : Message) (o at : ℕ) (bytes : List ℕ) → On s m o → Sound s m (write_check s m o at bytes)
write_sound s m o at bytes on =
    either (Sound s m) (is_late s m o) _ _ (λ _. record { is = tt })
    (λ t. either (Sound s m) (not (has_access s o 0x2)) _ _ (λ _. record {
      is = on;
    }) (λ _. either (Sound s m) (is_directory s (file_of s o)) _ _ (λ _. record {
      is = on;
    }) (λ _. either (Sound s m) (is_repeated s m o (bytes_change at bytes)) _ _ (λ _. record {
      is = on;
    }) (λ _. either (Sound s m) (not (may_write (s.ranges (file_of s o)) o at (length bytes))) _ _
    (λ _. record { is = on })
    (λ _. either (Sound s m) (not (is_empty bytes) && passes_room s (file_of s o) (at + length bytes)) _ _
    (λ _. record { is = on }) (λ _. alter_sound s m o _ _ on t))))))

read_sound : (s : Server) (m : Message) (o at size minimum : ℕ) → On s m o → Sound s m (read_check s o at size minimum)
read_sound s m o at size minimum on =
    either (Sound s m) (not (has_access s o 0x1 || has_access s o 0x20)) _ _ (λ _. record { is = on })
    (λ _. either (Sound s m) (is_directory s (file_of s o)) _ _ (λ _. record {
      is = on;
    }) (λ _. either (Sound s m) (not (may_read (s.ranges (file_of s o)) o at size)) _ _ (λ _. record {
      is = on;
    }) (λ _. either (Sound s m) (not (size == 0) && not (nat_lt at (length (s.content (file_of s o))))) _ _
    (λ _. record { is = on }) (λ _. either (Sound s m) (nat_lt (there s (file_of s o) at size) minimum) _ _
    (λ _. record { is = on }) (λ _. record { is = on })))))

turn_down_sound : (s : Server) (m : Message) (o index number : ℕ) (elements : List Element) (status : ℕ) → On s m o
    → Sound s m (turn_down_lock o index number elements status)
turn_down_sound s m o index number elements status on = either (Sound s m) (is_slot index) _ _ (λ _. record {
  is = on;
}) (λ _. record { is = on })

range_sound : (s : Server) (m : Message) (o index number : ℕ) (elements : List Element) (a : RangeAnswer) → On s m o
    → Sound s m (range_check o index number elements a)
range_sound s m o index number elements (Denied status) on = turn_down_sound s m o index number elements status on
range_sound s m o index number elements (Stands ranges) on = record { is = on }

slot_sound : (s : Server) (m : Message) (o index number : ℕ) (elements : List Element) (kept : Option ℕ) → On s m o
    → Sound s m (slot_check s o index number elements kept)
slot_sound s m o index number elements None on = either (Sound s m) (is_directory s (file_of s o)) _ _
    (λ _. turn_down_sound s m o index number elements _ on) (λ _. range_sound s m o index number elements _ on)
slot_sound s m o index number elements (Some status) on = either (Sound s m) (status == success) _ _ (λ _. record {
  is = tt;
}) (λ _. record { is = tt })

named_sound : (s : Server) (m : Message) (o : ℕ) (change : Change) (names : Option ℕ) → On s m o → is_late s m o ≡ false
    → Sound s m (named_change o change names)
named_sound s m o change (Some status) on t = record { is = on }
named_sound s m o change None on t = alter_sound s m o change _ on t

size_sound : (s : Server) (m : Message) (o size : ℕ) (change : Change) → On s m o → is_late s m o ≡ false
    → Sound s m (size_change s m o size change)
size_sound s m o size change on t =
    either (Sound s m) (not (has_access s o 0x2)) _ _ (λ _. record {
      is = on;
    }) (λ _. either (Sound s m) (is_directory s (file_of s o)) _ _ (λ _. record {
      is = on;
    }) (λ _. either (Sound s m) (is_repeated s m o change) _ _ (λ _. record {
      is = on;
    }) (λ _. either (Sound s m) (passes_room s (file_of s o) size) _ _ (λ _. record {
      is = on;
    }) (λ _. alter_sound s m o change _ on t))))

setting_sound : (s : Server) (m : Message) (o : ℕ) (setting : Setting) → On s m o → is_late s m o ≡ false
    → Sound s m (setting_check s m o setting)
setting_sound s m o (SetBasic basic) on t =
    let change = PutBasic (set_basic (s.basic (file_of s o)) basic) in
    either (Sound s m) (has_access s o 0x100) _ _
    (λ _. unrepeated s m o change _ on (named_sound s m o change (basic_names s (file_of s o) basic) on t)) (λ _. record { is = on })
setting_sound s m o (Rename replace path) on t =
    either (Sound s m) (has_access s o 0x1_0000) _ _
    (λ _. unrepeated s m o (path_change s o path) _ on (named_sound s m o (path_change s o path)
    (rename_names s (file_of s o) replace path) on t)) (λ _. record { is = on })
setting_sound s m o (SetDelete flag) on t =
    either (Sound s m) (has_access s o 0x1_0000) _ _ (λ _. unrepeated s m o (PutDeletePending flag) _ on
    (named_sound s m o (PutDeletePending flag) (delete_names s (file_of s o) flag) on t)) (λ _. record { is = on })
setting_sound s m o (SetAllocation size) on t = size_sound s m o (allocated size (length (s.content (file_of s o))))
    (allocation_change s (file_of s o) size) on t
setting_sound s m o (SetEnd size) on t = size_sound s m o size (PutEnd size) on t
setting_sound s m o (SetPosition position) on t = record { is = on }
setting_sound s m o SetMode on t = record { is = on }

set_sound : (s : Server) (m : Message) (o : ℕ) (setting : Setting) → On s m o → Sound s m (set_check s m o setting)
set_sound s m o setting on = either (Sound s m) (is_late s m o) _ _ (λ _. record { is = tt }) (λ t. setting_sound s m o setting on t)

list_sound : (s : Server) (m : Message) (o class : ℕ) (last : Option (List ℕ)) (all fit : List Named) → On s m o
    → Sound s m (listing_of o class last all fit)
unfolding listing_of
list_sound s m o class last [] fit on = record { is = on }
list_sound s m o class last (n ∷ ns) [] on = record { is = on }
list_sound s m o class last (n ∷ ns) (k ∷ ks) on = record { is = on }

ioctl_sound : (s : Server) (m : Message) (o code room : ℕ) → On s m o → Sound s m (ioctl_check s m o code room)
ioctl_sound s m o code room on = either (Sound s m) (is_late s m o) _ _ (λ _. record {
  is = tt;
}) (λ _. either (Sound s m) (ioctl_status code room == success) _ _ (λ _. record { is = on }) (λ _. record {
  is = on;
}))

free_sound : (s : Server) (m : Message) (code room : ℕ) → Sound s m (free_ioctl_check s code room)
free_sound s m code room = either (Sound s m) (code == get_object_id) _ _ (λ _. record { is = tt })
    (λ _. either (Sound s m) (ioctl_status code room == success) _ _ (λ _. record { is = tt }) (λ _. record { is = tt }))

tree_sound : (s : Server) (m : Message) (pipes : Bool) (c : Command) → Sound s m (tree_command s m pipes c)
tree_sound s m pipes (Unreadable status) = record { is = tt }
tree_sound s m pipes TreeDisconnect = record { is = tt }
tree_sound s m pipes (Create request) = either (Sound s m) pipes (Refuse object_name_not_found)
    (reconnect_or_create s m request request.reconnect) (λ _. record {
      is = tt;
    }) (λ _. create_sound s m request request.reconnect)
tree_sound s m pipes (Close o query) = open_sound s m o _ (λ on. record { is = on })
tree_sound s m pipes (Flush o) = open_sound s m o _ (λ on. either (Sound s m) (has_access s o 0x2 || has_access s o 0x4)
    _ _ (λ _. record { is = on }) (λ _. record { is = on }))
tree_sound s m pipes (Read o at size minimum channel) = open_sound s m o _ (λ on. read_sound s m o at size minimum on)
tree_sound s m pipes (Write o at bytes channel) = open_sound s m o _ (λ on. write_sound s m o at bytes on)
tree_sound s m pipes (Lock o index number elements) = open_sound s m o _ (λ on. slot_sound s m o index number elements
    (kept_lock s o index number) on)
tree_sound s m pipes (Ioctl o code room) = either (Sound s m) (o == no_file) _ _ (λ _. free_sound s m code room)
    (λ _. open_sound s m o _ (λ on. ioctl_sound s m o code room on))
tree_sound s m pipes (ListDirectory o class restart single pattern room) =
    open_sound s m o _ (λ on. either (Sound s m) (not (has_access s o 0x1)) _ _ (λ _. record {
      is = on;
    }) (λ _. either (Sound s m) (not (is_directory s (file_of s o))) _ _ (λ _. record {
      is = on;
    }) (λ _. list_sound s m o class _ _ _ on)))
tree_sound s m pipes (QueryFile o class room) = open_sound s m o _
    (λ on. either (Sound s m) (needs_attributes class && not (has_access s o 0x80)) _ _ (λ _. record {
      is = on;
    }) (λ _. either (Sound s m) (class == 21) _ _ (λ _. record {
      is = on;
    }) (λ _. either (Sound s m)
    (nat_lt room (file_info_size class (is_directory s (file_of s o)) (path_of s (file_of s o)))) _ _
    (λ _. record { is = on }) (λ _. record { is = on }))))
tree_sound s m pipes (QueryVolume o class room) = open_sound s m o _
    (λ on. either (Sound s m) (nat_lt room (volume_info_size class)) _ _ (λ _. record { is = on }) (λ _. record {
      is = on;
    }))
tree_sound s m pipes (SetInfo o setting) = open_sound s m o _ (λ on. set_sound s m o setting on)
tree_sound s m pipes (Setup request) = record { is = tt }
tree_sound s m pipes Logoff = record { is = tt }
tree_sound s m pipes (TreeConnect share) = record { is = tt }
tree_sound s m pipes (Aside status) = record { is = tt }

in_tree_sound : (s : Server) (m : Message) (t : Option Bool) → Sound s m (in_tree s m t)
in_tree_sound s m None = record { is = tt }
in_tree_sound s m (Some pipes) = tree_sound s m pipes m.command

-- ---- SESSION_SETUP

granted_sound : (s : Server) (m : Message) (r : SetupRequest) (user : List ℕ)
    → is_new m.session_id (s.making m.connection) ≡ true → Sound s m (granted_session s m r user)
granted_sound s m r user e = either (Sound s m) (s.encrypts && (r.cipher == 0)) _ _ (λ _. record {
  is = tt;
}) (λ _. either (Sound s m) (nat_le max_sessions s.sessions) _ _ (λ _. record { is = tt }) (λ _. record {
  is = (e, refl);
}))

second_sound : (s : Server) (m : Message) (r : SetupRequest) (t : Shows) → is_new m.session_id (s.making m.connection)
    ≡ true → Sound s m (second_token s m r t)
second_sound s m r Begins e = record { is = tt }
second_sound s m r Bad e = record { is = tt }
second_sound s m r Refused e = record { is = tt }
second_sound s m r (Logon user) e = granted_sound s m r user e

first_sound : (s : Server) (m : Message) (t : Shows) → Sound s m (first_token s t)
first_sound s m Begins = either (Sound s m) (nat_le max_ids s.session_ids_given) _ _ (λ _. record { is = tt }) (λ _. record { is = tt })
first_sound s m Bad = record { is = tt }
first_sound s m Refused = record { is = tt }
first_sound s m (Logon user) = record { is = tt }

session_sound : (s : Server) (m : Message) (r : SetupRequest) → Sound s m (session_check s m r)
session_sound s m r =
    either (Sound s m) (m.session_id == 0) _ _ (λ _. either (Sound s m) (is_some (s.session_on m.connection)) _ _
    (λ _. record { is = tt }) (λ _. first_sound s m r.shows))
    (λ _. either (Sound s m) (s.present m.session_id) _ _ (λ _. record {
      is = tt;
    }) (λ _. either (Sound s m) (is_new m.session_id (s.making m.connection)) _ _
    (λ e. second_sound s m r r.shows e) (λ _. record { is = tt })))

second_binding_sound : (s : Server) (m : Message) (t : Shows) → Sound s m (second_binding s m t)
second_binding_sound s m Begins = record { is = tt }
second_binding_sound s m Bad = record { is = tt }
second_binding_sound s m Refused = record { is = tt }
second_binding_sound s m (Logon user) = either (Sound s m) (not (same_name user (s.user m.session_id))) _ _
    (λ _. record { is = tt })
    (λ _. either (Sound s m) (nat_le max_channels (count_channels s.session_on s.connections m.session_id)) _ _
    (λ _. record { is = tt }) (λ _. either (Sound s m) (nat_le max_numbers (s.channel_numbers_drawn m.session_id)) _ _
    (λ _. record { is = tt }) (λ _. record { is = tt })))

first_binding_sound : (s : Server) (m : Message) (t : Shows) → Sound s m (first_binding m t)
first_binding_sound s m Begins = record { is = tt }
first_binding_sound s m Bad = record { is = tt }
first_binding_sound s m Refused = record { is = tt }
first_binding_sound s m (Logon user) = record { is = tt }

binding_token_sound : (s : Server) (m : Message) (r : SetupRequest) → Sound s m (binding_token s m r)
binding_token_sound s m r = either (Sound s m) (is_binding m.session_id (s.making m.connection)) _ _
    (λ _. second_binding_sound s m r.shows) (λ _. first_binding_sound s m r.shows)

live_binding_sound : (s : Server) (m : Message) (r : SetupRequest) → Sound s m (live_binding s m r)
live_binding_sound s m r =
    either (Sound s m) (not r.signed) _ _ (λ _. record { is = tt })
    (λ _. either (Sound s m) (not (m.client_guid == s.client m.session_id)) _ _ (λ _. record {
      is = tt;
    }) (λ _. either (Sound s m)
    (not ((r.cipher == s.cipher m.session_id) && (r.signing == s.signing m.session_id))) _ _ (λ _. record {
      is = tt;
    }) (λ _. either (Sound s m) (is_some (s.session_on m.connection)) _ _ (λ _. record {
      is = tt;
    }) (λ _. either (Sound s m) (not r.verified) _ _ (λ _. record {
      is = tt;
    }) (λ _. binding_token_sound s m r)))))

binding_sound : (s : Server) (m : Message) (r : SetupRequest) → Sound s m (binding_check s m r)
binding_sound s m r = either (Sound s m) (s.present m.session_id) _ _ (λ _. live_binding_sound s m r)
    (λ _. either (Sound s m) (not (is_new m.session_id (s.making m.connection))) _ _ (λ _. record {
      is = tt;
    }) (λ _. either (Sound s m) (not r.signed) _ _ (λ _. record { is = tt }) (λ _. record { is = tt })))

setup_sound : (s : Server) (m : Message) (r : SetupRequest) → Sound s m (setup_check s m r)
setup_sound s m r = either (Sound s m) (r.binding) _ _ (λ _. binding_sound s m r) (λ _. session_sound s m r)

-- ---- the whole

tree_connect_sound : (s : Server) (m : Message) (share : List ℕ) → Sound s m (tree_check s m share)
tree_connect_sound s m share = either (Sound s m) (no_tree_left s m.session_id) _ _ (λ _. record {
  is = tt;
}) (λ _. either (Sound s m) (same_name share pipes_name) _ _ (λ _. record {
  is = tt;
}) (λ _. either (Sound s m) (same_name share s.share) _ _ (λ _. record { is = tt }) (λ _. record {
  is = tt;
})))

with_tree_sound : (s : Server) (m : Message) → Sound s m (with_tree s m)
with_tree_sound s m = in_tree_sound s m (tree_in (s.trees m.session_id) m.tree_id)

command_sound : (s : Server) (m : Message) (c : Command) → Sound s m (command_check s m c)
command_sound s m (Unreadable status) = record { is = tt }
command_sound s m (Setup request) = setup_sound s m request
command_sound s m Logoff = record { is = tt }
command_sound s m (TreeConnect share) = tree_connect_sound s m share
command_sound s m (Aside status) = record { is = tt }
command_sound s m TreeDisconnect = with_tree_sound s m
command_sound s m (Create request) = with_tree_sound s m
command_sound s m (Close file query) = with_tree_sound s m
command_sound s m (Flush file) = with_tree_sound s m
command_sound s m (Read file at size minimum channel) = with_tree_sound s m
command_sound s m (Write file at bytes channel) = with_tree_sound s m
command_sound s m (Lock file index number elements) = with_tree_sound s m
command_sound s m (Ioctl file code room) = with_tree_sound s m
command_sound s m (ListDirectory file class restart single pattern room) = with_tree_sound s m
command_sound s m (QueryFile file class room) = with_tree_sound s m
command_sound s m (QueryVolume file class room) = with_tree_sound s m
command_sound s m (SetInfo file setting) = with_tree_sound s m

formed_sound : (s : Server) (m : Message) (f : Option ℕ) → Sound s m (formed s m f)
formed_sound s m (Some status) = record { is = tt }
formed_sound s m None = command_sound s m m.command

owed_sound : (s : Server) (m : Message) (f : Option ℕ) → Sound s m (owed s m f)
owed_sound s m (Some status) = record { is = tt }
owed_sound s m None = formed_sound s m (form m.command)

pub sound : (s : Server) (m : Message) → Sound s m (check s m)
sound s m = either (Sound s m) (is_setup m.command || has_session s m) _ _ (λ _. owed_sound s m m.fault) (λ _. record { is = tt })

-- and what stands in its place where the records don't fit
pub sound_without_room : (s : Server) (m : Message) (v : Verdict) → Sound s m v → Sound s m (without_room v)
sound_without_room s m (Refuse status) h = record { is = tt }
sound_without_room s m (Give body) h = record { is = tt }
sound_without_room s m (KeepRefusal guid status) h = record { is = tt }
sound_without_room s m (Repeat o r) h = record { is = h.is }
sound_without_room s m (Attach o r) h = record { is = h.is }
sound_without_room s m (Make r found action) h = refused_by_sound s m r.durable disk_full
sound_without_room s m (TurnDown o status) h = record { is = h.is }
sound_without_room s m (Tell o body) h = record { is = h.is }
sound_without_room s m (Show o last body) h = record { is = h.is }
sound_without_room s m (KeepSlot o index number status elements) h = record { is = h.is }
sound_without_room s m (PutRanges o index number ranges elements) h = record { is = h.is }
sound_without_room s m (Alter o change body) h = record { is = h.is.0 }
sound_without_room s m (CloseOpen o body) h = record { is = h.is }
sound_without_room s m Challenge h = record { is = tt }
sound_without_room s m (ChallengeBinding session) h = record { is = tt }
sound_without_room s m (Begin session user previous r is_quiet) h = record { is = h.is }
sound_without_room s m (Join session) h = record { is = tt }
sound_without_room s m (EndSession session is_quiet) h = record { is = tt }
sound_without_room s m (AddTree pipes) h = record { is = tt }
sound_without_room s m DropTree h = record { is = tt }
