-- What the checks found, for each verdict: what stood in the state and in the message when it was given.
use Rattle.std.specs.Prelude.{◌≡◌, ◌⊎◌, ℕ, ◌+◌, ◌==◌, ◌≤◌, ◌<◌, nat_le, Bool, true, false, not, ◌&&◌, List, length}
use Rattle.std.specs.Prelude.{Option, Some, None, is_some}
use Rattle.spec_exchange.specs.Status.{success}
use Rattle.spec_exchange.specs.Texts.{is_path, is_below, same_name}
use Rattle.spec_exchange.specs.Content.{is_empty}
use Rattle.spec_exchange.specs.Commands.{Setup, Logoff, TreeConnect, TreeDisconnect, Create, Close, Write, Lock}
use Rattle.spec_exchange.specs.Commands.{SetInfo, Setting, SetBasic, Rename, SetDelete, SetAllocation, SetEnd}
use Rattle.spec_exchange.specs.Commands.{SetPosition, SetMode}
use Rattle.spec_exchange.specs.Commands.{CreateRequest, Durable, Reconnect, SetupRequest, Logon, Element}
use Rattle.spec_exchange.specs.Commands.{deletes_on_close, form}
use Rattle.spec_exchange.specs.State.{Server, Message, NewSession, Range, Body, Empty, Count}
use Rattle.spec_exchange.specs.Files.{root, find, path_of, exists, is_directory, has_parent, passes_room, set_basic, allocated}
use Rattle.spec_exchange.specs.Ranges.{change_ranges, Stands, may_write}
use Rattle.spec_exchange.specs.Opens.{deletes, mapped, max_ids}
use Rattle.spec_exchange.specs.CheckCreate.{keeps_guid, max_guids, max_opens, max_files, last_file, action_of, shares}
use Rattle.spec_exchange.specs.CheckCreate.{makes_missing, empties, has_guid}
use Rattle.spec_exchange.specs.CheckOpen.{is_late, file_of, has_access, is_slot, kept_status, bytes_change}
use Rattle.spec_exchange.specs.CheckOpen.{allocation_change, target_of, target_refused, delete_names, open_below}
use Rattle.spec_exchange.specs.CheckOpen.{is_repeated}
use Rattle.spec_exchange.specs.CheckSetup.{tree_in, is_binding, previous_of}
use Rattle.spec_exchange.specs.Verdict.{Verdict, Refuse, Give, KeepRefusal, Repeat, Attach, Make, TurnDown, Tell, Show}
use Rattle.spec_exchange.specs.Verdict.{KeepSlot, PutRanges, Alter, CloseOpen, Challenge, ChallengeBinding, Begin, Join}
use Rattle.spec_exchange.specs.Verdict.{EndSession, AddTree, DropTree, Change, PutEnd, PutBasic, PutDeletePending}
use Rattle.spec_exchange.specs.Verdict.{PutPath, PutNothing}

-- a request of a live session on its own connection, signed as owed and well formed
pub record SessionFacts (s : Server) (m : Message) : Type 0 where
  pub session_on : s.session_on m.connection ≡ Some m.session_id
  pub fault : m.fault ≡ None
  pub formed : form m.command ≡ None

pub record TreeFacts (s : Server) (m : Message) : Type 0 where
  pub session : SessionFacts s m
  pub tree : is_some (tree_in (s.trees m.session_id) m.tree_id) ≡ true

-- its open stands in its session and its tree
pub record OpenFacts (s : Server) (m : Message) (o : ℕ) : Type 0 where
  pub tree : TreeFacts s m
  pub standing : s.standing o ≡ true
  pub session_of_open : s.session_of_open o ≡ Some m.session_id
  pub tree_of_open : s.tree_of_open o ≡ m.tree_id

-- ---- CREATE

pub record CreateFacts (s : Server) (m : Message) (r : CreateRequest) (pipes : Bool) : Type 0 where
  pub session : SessionFacts s m
  pub tree : tree_in (s.trees m.session_id) m.tree_id ≡ Some pipes
  pub command : m.command ≡ Create r

-- a create that is new: its guid, if it has one, names nothing
pub record NewFacts (s : Server) (m : Message) (r : CreateRequest) (pipes : Bool) : Type 0 where
  pub create : CreateFacts s m r pipes
  pub new : r.reconnect ≡ None
  pub no_open : (d : Durable) → r.durable ≡ Some d → s.by_guid m.client_guid d.guid ≡ None
  pub no_closed : (d : Durable) → r.durable ≡ Some d → s.closed m.session_id d.guid ≡ false
  pub not_expired : (d : Durable) → r.durable ≡ Some d → s.expired_guids m.client_guid d.guid ≡ false
  pub no_refusal : (d : Durable) → r.durable ≡ Some d → s.refused m.session_id d.guid ≡ None
  pub may_delete : (deletes_on_close r.options && not (deletes (mapped r.access))) ≡ false
  pub guids : (keeps_guid r && nat_le max_guids (s.guids m.session_id)) ≡ false

pub record KeepFacts (s : Server) (m : Message) (guid status : ℕ) : Type 0 where
  pub request : CreateRequest
  pub durable : Durable
  pub pipes : Bool
  pub new : NewFacts s m request pipes
  pub kept : request.durable ≡ Some durable
  pub guid_is : durable.guid ≡ guid
  pub refused : (status == success) ≡ false

-- what it found is there, isn't delete pending, and is no directory where it is emptied
pub record ThereFacts (s : Server) (r : CreateRequest) (f : ℕ) : Type 0 where
  pub there : exists s f ≡ true
  pub not_pending : s.delete_pending f ≡ false
  pub emptied : empties r.disposition ≡ true → is_directory s f ≡ false
  pub no_root : deletes_on_close r.options ≡ true → (f == root) ≡ false

-- what it makes has a place and a number
pub record MissingFacts (s : Server) (r : CreateRequest) : Type 0 where
  pub makes : makes_missing r.disposition ≡ true
  pub parent : has_parent s r.path ≡ true
  pub files : length s.entries < max_files
  pub number : s.next_file ≤ last_file

pub record MakeFacts (s : Server) (m : Message) (r : CreateRequest) (found : Option ℕ) (action : ℕ) : Type 0 where
  pub new : NewFacts s m r false
  pub found_is : found ≡ find s r.path
  pub action_is : action ≡ action_of r found
  pub shared : shares s r found ≡ true
  pub path : is_path r.path ≡ true
  pub disposition : r.disposition ≤ 5
  pub opens : length s.opens < max_opens
  pub given : s.open_ids_given < max_ids
  pub there : (f : ℕ) → found ≡ Some f → ThereFacts s r f
  pub missing : found ≡ None → MissingFacts s r

-- the first answer again: the open is this session's, or nobody's and persistent
pub record RepeatFacts (s : Server) (m : Message) (o : ℕ) (r : CreateRequest) : Type 0 where
  pub durable : Durable
  pub pipes : Bool
  pub create : CreateFacts s m r pipes
  pub new : r.reconnect ≡ None
  pub kept : r.durable ≡ Some durable
  pub named : s.by_guid m.client_guid durable.guid ≡ Some o
  pub replay : m.replay ≡ true
  pub whose : (s.session_of_open o ≡ Some m.session_id) ⊎ (s.session_of_open o ≡ None × (s.opened o).persistent ≡ true
      × same_name (s.opened o).user (s.user m.session_id) ≡ true)

pub record AttachFacts (s : Server) (m : Message) (o : ℕ) (r : CreateRequest) : Type 0 where
  pub reconnect : Reconnect
  pub create : CreateFacts s m r false
  pub asked : r.reconnect ≡ Some reconnect
  pub file : reconnect.file ≡ o
  pub standing : s.standing o ≡ true
  pub guid : has_guid reconnect.guid (s.opened o).create_guid ≡ true
  pub user : same_name (s.opened o).user (s.user m.session_id) ≡ true
  pub whose : (s.session_of_open o ≡ None) ⊎ (s.session_of_open o ≡ Some m.session_id)

-- ---- LOCK

pub record LockFacts (s : Server) (m : Message) (o index number : ℕ) (elements : List Element) : Type 0 where
  pub opened : OpenFacts s m o
  pub command : m.command ≡ Lock o index number elements
  pub unkept : is_slot index ≡ true → kept_status number (s.lock_sequences o index) ≡ None

pub record SlotFacts (s : Server) (m : Message) (o index number status : ℕ) (elements : List Element) : Type 0 where
  pub lock : LockFacts s m o index number elements
  pub slot : is_slot index ≡ true
  pub refused : (status == success) ≡ false

pub record RangesFacts (s : Server) (m : Message) (o index number : ℕ) (ranges : List Range) (elements : List Element) : Type 0 where
  pub lock : LockFacts s m o index number elements
  pub file : is_directory s (file_of s o) ≡ false
  pub granted : change_ranges (s.ranges (file_of s o)) o elements ≡ Stands ranges

-- ---- WRITE and SET_INFO

-- what a SET_INFO asks for
abbrev pub setting_change : Server → ℕ → Setting → Change
setting_change s o (SetBasic basic) = PutBasic (set_basic (s.basic (file_of s o)) basic)
setting_change s o (Rename replace path) = PutPath (target_of (file_of s o) (find s path)) path
setting_change s o (SetDelete flag) = PutDeletePending flag
setting_change s o (SetAllocation size) = allocation_change s (file_of s o) size
setting_change s o (SetEnd size) = PutEnd size
setting_change s o (SetPosition position) = PutNothing
setting_change s o SetMode = PutNothing

pub record WriteFacts (s : Server) (m : Message) (o : ℕ) (change : Change) (body : Body) : Type 0 where
  pub at : ℕ
  pub bytes : List ℕ
  pub channel : ℕ
  pub command : m.command ≡ Write o at bytes channel
  pub change_is : change ≡ bytes_change at bytes
  pub body_is : body ≡ Count (length bytes)
  pub access : has_access s o 0x2 ≡ true
  pub file : is_directory s (file_of s o) ≡ false
  pub unlocked : may_write (s.ranges (file_of s o)) o at (length bytes) ≡ true
  pub room : (not (is_empty bytes) && passes_room s (file_of s o) (at + length bytes)) ≡ false

pub record SizeFacts (s : Server) (o size : ℕ) : Type 0 where
  pub access : has_access s o 0x2 ≡ true
  pub file : is_directory s (file_of s o) ≡ false
  pub room : passes_room s (file_of s o) size ≡ false

pub record PathFacts (s : Server) (o : ℕ) (replace : Bool) (path : List ℕ) : Type 0 where
  pub access : has_access s o 0x1_0000 ≡ true
  pub is_text : is_path path ≡ true
  pub no_root : (file_of s o == root) ≡ false
  pub not_below : (is_directory s (file_of s o) && is_below (path_of s (file_of s o)) path) ≡ false
  pub parent : has_parent s path ≡ true
  pub taken : (is_some (find s path) && not replace) ≡ false
  pub target : target_refused s (target_of (file_of s o) (find s path)) ≡ false
  pub none_below : (is_directory s (file_of s o) && open_below s s.entries (path_of s (file_of s o))) ≡ false

pub record MarkFacts (s : Server) (o : ℕ) (flag : Bool) : Type 0 where
  pub access : has_access s o 0x1_0000 ≡ true
  pub names : delete_names s (file_of s o) flag ≡ None

-- what was found of a SET_INFO that is carried out on its file; a position and a mode are not
abbrev pub SettingSays : Server → ℕ → Setting → Type 0
SettingSays s o (SetBasic basic) = has_access s o 0x100 ≡ true
SettingSays s o (Rename replace path) = PathFacts s o replace path
SettingSays s o (SetDelete flag) = MarkFacts s o flag
SettingSays s o (SetAllocation size) = SizeFacts s o (allocated size (length (s.content (file_of s o))))
SettingSays s o (SetEnd size) = SizeFacts s o size
SettingSays s o (SetPosition position) = ⊥
SettingSays s o SetMode = ⊥

pub record SettingFacts (s : Server) (m : Message) (o : ℕ) (change : Change) (body : Body) : Type 0 where
  pub setting : Setting
  pub command : m.command ≡ SetInfo o setting
  pub change_is : change ≡ setting_change s o setting
  pub body_is : body ≡ Empty
  pub says : SettingSays s o setting

pub record AlterFacts (s : Server) (m : Message) (o : ℕ) (change : Change) (body : Body) : Type 0 where
  pub opened : OpenFacts s m o
  pub late : is_late s m o ≡ false
  pub fresh : is_repeated s m o change ≡ false
  pub asked : WriteFacts s m o change body ⊎ SettingFacts s m o change body

-- ---- CLOSE, SESSION_SETUP and trees

pub record ShutFacts (s : Server) (m : Message) (o : ℕ) : Type 0 where
  pub opened : OpenFacts s m o
  pub query : Bool
  pub command : m.command ≡ Close o query

pub record ChallengeFacts (s : Server) (m : Message) : Type 0 where
  pub request : SetupRequest
  pub command : m.command ≡ Setup request
  pub new : m.session_id ≡ 0
  pub off : s.session_on m.connection ≡ None
  pub begun : s.session_ids_given < max_ids

pub record BindingFacts (s : Server) (m : Message) (session : ℕ) : Type 0 where
  pub request : SetupRequest
  pub command : m.command ≡ Setup request
  pub session_is : session ≡ m.session_id
  pub binding : request.binding ≡ true
  pub client : (m.client_guid == s.client m.session_id) ≡ true
  pub off : s.session_on m.connection ≡ None
  pub present : s.present m.session_id ≡ true

-- a session begins where its id is in the making on this connection
pub record BeginFacts (s : Server) (m : Message) (session : ℕ) (user : List ℕ) (previous : Option ℕ) (r : SetupRequest) : Type 0 where
  pub command : m.command ≡ Setup r
  pub shows : r.shows ≡ Logon user
  pub session_is : session ≡ m.session_id
  pub absent : s.present m.session_id ≡ false
  pub making : s.making m.connection ≡ Some (NewSession m.session_id)
  pub previous_is : previous ≡ previous_of s user r.previous

pub record JoinFacts (s : Server) (m : Message) (session : ℕ) : Type 0 where
  pub binding : BindingFacts s m session
  pub making : is_binding m.session_id (s.making m.connection) ≡ true

pub record EndFacts (s : Server) (m : Message) (session : ℕ) : Type 0 where
  pub at : SessionFacts s m
  pub session_is : session ≡ m.session_id
  pub command : m.command ≡ Logoff

pub record AddTreeFacts (s : Server) (m : Message) (pipes : Bool) : Type 0 where
  pub session : SessionFacts s m
  pub share : List ℕ
  pub command : m.command ≡ TreeConnect share

pub record DropTreeFacts (s : Server) (m : Message) : Type 0 where
  pub tree : TreeFacts s m
  pub command : m.command ≡ TreeDisconnect

-- ---- by verdict

abbrev pub Facts : Server → Message → Verdict → Type 0
Facts s m (Refuse status) = Unit {0}
Facts s m (Give body) = SessionFacts s m
Facts s m (KeepRefusal guid status) = KeepFacts s m guid status
Facts s m (Repeat o r) = RepeatFacts s m o r
Facts s m (Attach o r) = AttachFacts s m o r
Facts s m (Make r found action) = MakeFacts s m r found action
Facts s m (TurnDown o status) = OpenFacts s m o
Facts s m (Tell o body) = OpenFacts s m o
Facts s m (Show o last body) = OpenFacts s m o
Facts s m (KeepSlot o index number status elements) = SlotFacts s m o index number status elements
Facts s m (PutRanges o index number ranges elements) = RangesFacts s m o index number ranges elements
Facts s m (Alter o change body) = AlterFacts s m o change body
Facts s m (CloseOpen o body) = ShutFacts s m o
Facts s m Challenge = ChallengeFacts s m
Facts s m (ChallengeBinding session) = BindingFacts s m session
Facts s m (Begin session user previous r is_quiet) = BeginFacts s m session user previous r
Facts s m (Join session) = JoinFacts s m session
Facts s m (EndSession session is_quiet) = EndFacts s m session
Facts s m (AddTree pipes) = AddTreeFacts s m pipes
Facts s m DropTree = DropTreeFacts s m
