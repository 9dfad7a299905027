-- What a request does to the server's tables (MS-SMB2 3.3.5) by its verdict: the state behind it, the reply, the records owed
-- and whether it acted.
use Rattle.std.specs.Prelude.{ℕ, ◌+◌, ◌-◌, ◌*◌, ◌==◌, nat_lt, Bool, true, false, not, ◌&&◌, ◌||◌, if◌then◌else◌, List}
use Rattle.std.specs.Prelude.{[], ◌∷◌, ◌++◌, Option, Some, None, is_some}
use Rattle.spec_exchange.specs.Table.{put, put2, is_at, is_filled, number_or_zero}
use Rattle.spec_exchange.specs.Status.{success, more_processing_required}
use Rattle.spec_exchange.specs.Content.{written, ended, same_bytes}
use Rattle.spec_exchange.specs.Commands.{CreateRequest, Durable, SetupRequest, Basic, Element, asks_directory}
use Rattle.spec_exchange.specs.State.{no_later, Server, Message, Open, Range, Tree, NewSession, Binding, Body, Empty}
use Rattle.spec_exchange.specs.State.{Created, SetUp, Connected, Record, NewOpen, Origin, CreateRecord, WriteRecord}
use Rattle.spec_exchange.specs.State.{EndRecord, BasicRecord, DeleteRecord, RenameRecord, LockRecord, Answer}
use Rattle.spec_exchange.specs.Files.{make_file, empty_file, set_content, store_basic, set_delete_pending, rename_file}
use Rattle.spec_exchange.specs.Files.{info_of, same_basic, path_of, file_attributes, directory_attributes}
use Rattle.spec_exchange.specs.Opens.{id_of, is_of_tree, granted, add_open, leave_open, leave_records}
use Rattle.spec_exchange.specs.CheckCreate.{empties}
use Rattle.spec_exchange.specs.CheckOpen.{is_late, is_slot, file_of}
use Rattle.spec_exchange.specs.Records.{origin_of}
use Rattle.spec_exchange.specs.Verdict.{Verdict, Refuse, Give, KeepRefusal, Repeat, Attach, Make, TurnDown, Tell, Show}
use Rattle.spec_exchange.specs.Verdict.{KeepSlot, PutRanges, Alter, CloseOpen, Challenge, ChallengeBinding, Begin, Join}
use Rattle.spec_exchange.specs.Verdict.{EndSession, AddTree, DropTree, Change, PutBytes, PutEnd, PutBasic}
use Rattle.spec_exchange.specs.Verdict.{PutDeletePending, PutPath, PutNothing, Place, Behind, At}

-- ---- answers

abbrev pub answer_with : Server → Message → ℕ → Body → List Record → Bool → Option ℕ → Answer
answer_with s m status body records acted reached =
    record {
      server = s;
      reply = record {
        status = status;
        session_id = m.session_id;
        tree_id = m.tree_id;
        body = body;
      };
      records = records;
      acted = acted;
      reached = reached;
      altered = None;
    }

-- no record is owed, and nothing in the files, the set of opens and the ranges changed
abbrev pub quiet : Server → Message → ℕ → Body → Answer
quiet s m status body = answer_with s m status body [] false None

-- ---- the sequence of an open: a newer one is adopted

abbrev pub reach : Server → Message → ℕ → Server
reach s m o = if is_late s m o then s else record s { sequence = put s.sequence o m.channel_sequence }

-- the open that the sequence reached
abbrev pub reaches : Server → Message → ℕ → Option ℕ
reaches s m o = if is_late s m o then None else Some o

-- as quiet, of a request that came to its open's sequence
abbrev pub quiet_on : Server → Message → ℕ → ℕ → Body → Answer
quiet_on s m o status body = answer_with (reach s m o) m status body [] false (reaches s m o)

-- ---- creates

abbrev pub keep_refusal : Server → ℕ → ℕ → ℕ → Server
keep_refusal s session guid status = record s {
  refused = put2 s.refused session guid (Some status);
  guids = put s.guids session (s.guids session + 1);
}

-- an open without a session becomes this session's, with the request's tree and sequence
abbrev pub attach : Server → Message → ℕ → Server
attach s m o =
    record s {
      session_of_open = put s.session_of_open o (Some m.session_id);
      tree_of_open = put s.tree_of_open o m.tree_id;
      sequence = put s.sequence o m.channel_sequence;
      deadline = put s.deadline o None;
      guids = put s.guids m.session_id (s.guids m.session_id + 1);
    }

abbrev pub attached : Server → Message → ℕ → Server
attached s m o = if is_some (s.session_of_open o) then s else attach s m o

abbrev pub attaches : Server → ℕ → Option ℕ
attaches s o = if is_some (s.session_of_open o) then None else Some o

-- DH2Q's timeout: 0 counts as a minute, more than five as five
unfoldable pub timeout_of : ℕ → ℕ
timeout_of t = if t == 0 then 60000 else if nat_lt 300000 t then 300000 else t

abbrev pub told_timeout : Server → ℕ → CreateRequest → Option ℕ
told_timeout s o r = if (s.opened o).persistent && is_some r.durable then Some (s.opened o).timeout else None

abbrev pub create_reply : Server → ℕ → CreateRequest → ℕ → Body
create_reply s o r action = Created (record {
  id = o;
  action = action;
  info = info_of s (s.opened o).file;
  timeout = told_timeout s o r;
  maximal = r.maximal;
  disk_id = r.disk_id;
})

abbrev pub guid_of : Option Durable → Option ℕ
guid_of None = None
guid_of (Some d) = Some d.guid

abbrev pub is_persistent : Option Durable → Bool
is_persistent None = false
is_persistent (Some d) = d.persistent

abbrev pub timeout_asked : Option Durable → ℕ
timeout_asked None = 0
timeout_asked (Some d) = timeout_of d.timeout

abbrev pub new_file : Server → Option ℕ → ℕ
new_file s None = s.next_file
new_file s (Some f) = f

abbrev pub made_attributes : CreateRequest → ℕ
made_attributes r = if asks_directory r then directory_attributes r.attributes else file_attributes r.attributes

-- those that the file has behind the CREATE
abbrev pub final_attributes : Server → CreateRequest → Option ℕ → ℕ
final_attributes s r None = made_attributes r
final_attributes s r (Some f) = if empties r.disposition then file_attributes r.attributes else (s.basic f).attributes

abbrev pub file_made : Server → CreateRequest → Option ℕ → ℕ → Server
file_made s r None now = make_file s r.path (asks_directory r) (made_attributes r) now
file_made s r (Some f) now = if empties r.disposition then empty_file s f (file_attributes r.attributes) now else s

abbrev pub open_row : Server → Message → CreateRequest → ℕ → ℕ → Open
open_row s m r f action =
    record {
      file = f;
      access = granted s f r.access;
      share = r.share;
      options = r.options;
      action = action;
      persistent = is_persistent r.durable;
      client_guid = m.client_guid;
      create_guid = guid_of r.durable;
      user = s.user m.session_id;
      timeout = timeout_asked r.durable;
    }

abbrev pub next_open : Server → ℕ
next_open s = id_of s.epoch (s.open_ids_given + 1)

abbrev pub guids_after : Server → ℕ → Option Durable → ℕ → ℕ
guids_after s session None = s.guids
guids_after s session (Some d) = put s.guids session (s.guids session + 1)

abbrev pub make_open : Server → Message → CreateRequest → Option ℕ → ℕ → ℕ → Server
make_open s m r found action now =
    record (add_open (file_made s r found now) (next_open s) (open_row s m r (new_file s found) action)
    (Some m.session_id) m.channel_sequence) {
      open_ids_given = s.open_ids_given + 1;
      tree_of_open = put s.tree_of_open (next_open s) m.tree_id;
      guids = guids_after s m.session_id r.durable;
    }

unfoldable pub new_open : Server → Message → CreateRequest → ℕ → Option Durable → Option NewOpen
new_open s m r access None = None
new_open s m r access (Some d) =
    if d.persistent
    then Some (record {
      id = next_open s;
      client_guid = m.client_guid;
      create_guid = d.guid;
      user = s.user m.session_id;
      access = access;
      share = r.share;
      options = r.options;
      timeout = timeout_of d.timeout;
    })
    else None

-- a plain open of what is there owes no record
unfoldable pub create_records : Server → Message → CreateRequest → Option ℕ → ℕ → ℕ → List Record
create_records s m r found action now =
    if (action == 1) && not (is_persistent r.durable) then []
    else CreateRecord (origin_of m) action (new_file s found) r.path (final_attributes s r found) (asks_directory r) now
    (new_open s m r (granted s (new_file s found) r.access) r.durable) ∷ []

abbrev pub made : Server → Message → CreateRequest → Option ℕ → ℕ → ℕ → Answer
made s m r found action now =
    let t = make_open s m r found action now in answer_with t m success (create_reply t (next_open s) r action)
    (create_records s m r found action now) true (Some (next_open s))

-- ---- locks

abbrev pub keep_slot : Server → ℕ → ℕ → ℕ → ℕ → Server
keep_slot s o index number status = if is_slot index then record s {
  lock_sequences = put2 s.lock_sequences o index (Some (record { number = number; status = status }));
} else s

abbrev pub set_ranges : Server → ℕ → List Range → Server
set_ranges s f ranges = record s { ranges = put s.ranges f ranges }

-- one that uses no slot is recorded with the index 0
abbrev pub recorded_index : ℕ → ℕ
recorded_index index = if is_slot index then index else 0

unfoldable pub lock_records : Server → Message → ℕ → ℕ → ℕ → ℕ → List Element → List Record
lock_records s m o index number status elements = if (s.opened o).persistent then LockRecord (origin_of m) o
    (recorded_index index) number status elements ∷ [] else []

-- ---- writes and set-infos

abbrev pub change_file : Server → ℕ → ℕ → Change → Server
change_file s f now (PutBytes at bytes) = set_content s f (written at bytes (s.content f)) now
change_file s f now (PutEnd size) = set_content s f (ended size (s.content f)) now
change_file s f now (PutBasic basic) = store_basic s f basic
change_file s f now (PutDeletePending flag) = set_delete_pending s f flag
change_file s f now (PutPath replaced path) = rename_file s f replaced path
change_file s f now PutNothing = s

unfoldable pub change_records : Message → ℕ → ℕ → Change → List Record
change_records m f now (PutBytes at bytes) = WriteRecord (origin_of m) f at now bytes ∷ []
change_records m f now (PutEnd size) = EndRecord (origin_of m) f size now ∷ []
change_records m f now (PutBasic basic) = BasicRecord (origin_of m) f basic ∷ []
change_records m f now (PutDeletePending flag) = DeleteRecord (origin_of m) f flag ∷ []
change_records m f now (PutPath replaced path) = RenameRecord (origin_of m) f (number_or_zero replaced) path ∷ []
change_records m f now PutNothing = []

unfoldable pub is_touched_at : Basic → ℕ → Bool
is_touched_at b now = (b.written == now) && (b.changed == now)

-- whether bytes, times, attributes, delete pending or name differ behind it
abbrev pub change_acts : Server → ℕ → ℕ → Change → Bool
change_acts s f now (PutBytes at bytes) = not (same_bytes (written at bytes (s.content f)) (s.content f) && is_touched_at (s.basic f) now)
change_acts s f now (PutEnd size) = not (same_bytes (ended size (s.content f)) (s.content f) && is_touched_at (s.basic f) now)
change_acts s f now (PutBasic basic) = not (same_basic basic (s.basic f))
change_acts s f now (PutDeletePending flag) = if s.delete_pending f then not flag else flag
change_acts s f now (PutPath replaced path) = is_some replaced || not (same_bytes path (path_of s f))
change_acts s f now PutNothing = false

-- ---- where an open stands

abbrev pub listed_at : (ℕ → Option (List ℕ)) → ℕ → Place → ℕ → Option (List ℕ)
listed_at location o (Behind last) = put location o last
listed_at location o (At position) = location

abbrev pub positioned_at : (ℕ → ℕ) → ℕ → Place → ℕ → ℕ
positioned_at offset o (Behind last) = offset
positioned_at offset o (At position) = put offset o position

-- ---- close

abbrev pub keep_closed : Server → ℕ → Option ℕ → Server
keep_closed s session None = s
keep_closed s session (Some g) = record s { closed = put2 s.closed session g true }

-- ---- sessions

-- an open that isn't persistent leaves with its session
abbrev pub leaves : Server → ℕ → ℕ → Bool
leaves s session o = is_at session (s.session_of_open o) && not (s.opened o).persistent

unfoldable pub plain_in : Server → ℕ → List ℕ → List ℕ
plain_in s session [] = []
plain_in s session (o ∷ os) = if leaves s session o then o ∷ plain_in s session os else plain_in s session os

-- the opens that leave with their session
abbrev pub plain_of : Server → ℕ → List ℕ
plain_of s session = plain_in s session s.opens

-- their files, in the order of their ids: each open leaves, and its file with it where it goes
unfoldable pub leave_all : Server → List ℕ → Server
leave_all s [] = s
leave_all s (o ∷ os) = leave_all (leave_open s o) os

unfoldable pub leave_all_records : Server → Origin → List ℕ → List Record
leave_all_records s origin [] = []
leave_all_records s origin (o ∷ os) = leave_records s origin o ++ leave_all_records (leave_open s o) origin os

-- of this state only the files count; quiet, they stay as they are
abbrev pub files_behind : Server → ℕ → Bool → Server
files_behind s session is_quiet = if is_quiet then s else leave_all s (plain_of s session)

-- the opens that stay, what they lock, and the guids that name them
unfoldable pub staying_in : Server → ℕ → List ℕ → List ℕ
staying_in s session [] = []
staying_in s session (o ∷ os) = if leaves s session o then staying_in s session os else o ∷ staying_in s session os

unfoldable pub ranges_staying : Server → ℕ → List Range → List Range
ranges_staying s session [] = []
ranges_staying s session (r ∷ rs) = if leaves s session r.owner then ranges_staying s session rs else r ∷ ranges_staying s session rs

abbrev pub guid_staying : Server → ℕ → Option ℕ → Option ℕ
guid_staying s session None = None
guid_staying s session (Some o) = if leaves s session o then None else Some o

abbrev pub cleared : ℕ → Option ℕ → Option ℕ
cleared session at = if is_at session at then None else at

-- 10,000 times a timeout behind now
abbrev pub deadline_behind : ℕ → ℕ → ℕ
deadline_behind now timeout = no_later (now + 10000 * timeout)

-- an open that stays without its session gets its deadline
abbrev pub dated : ℕ → ℕ → Open → Option ℕ → Option ℕ → Option ℕ
dated session now row at deadline = if is_at session at then
    (if row.persistent then Some (deadline_behind now row.timeout) else None) else deadline

-- its plain opens leave, its persistent ones stay without a session, and what it kept is forgotten
abbrev pub end_session : Server → ℕ → ℕ → Bool → Server
end_session s session now is_quiet =
    record s {
      entries = (files_behind s session is_quiet).entries;
      delete_pending = (files_behind s session is_quiet).delete_pending;
      ranges = λ f. ranges_staying s session (s.ranges f);
      opens = staying_in s session s.opens;
      standing = λ o. s.standing o && not (leaves s session o);
      by_guid = λ c g. guid_staying s session (s.by_guid c g);
      session_of_open = λ o. cleared session (s.session_of_open o);
      deadline = λ o. dated session now (s.opened o) (s.session_of_open o) (s.deadline o);
      present = put s.present session false;
      sessions = s.sessions - 1;
      trees = put s.trees session [];
      closed = put s.closed session (λ g. false);
      refused = put s.refused session (λ g. None);
      guids = put s.guids session 0;
      session_on = λ k. cleared session (s.session_on k);
    }

unfoldable pub end_records : Server → Origin → ℕ → Bool → List Record
end_records s origin session true = []
end_records s origin session false = leave_all_records s origin (plain_of s session)

-- ending it takes an open out of the table
abbrev pub end_acts : Server → ℕ → Bool
end_acts s session = is_filled (plain_of s session)

-- where a session is named, it ends
abbrev pub end_if_named : Server → ℕ → Option ℕ → Bool → Server
end_if_named s now None is_quiet = s
end_if_named s now (Some session) is_quiet = end_session s session now is_quiet

abbrev pub records_if_named : Server → Origin → Option ℕ → Bool → List Record
records_if_named s origin None is_quiet = []
records_if_named s origin (Some session) is_quiet = end_records s origin session is_quiet

abbrev pub acts_if_named : Server → Option ℕ → Bool
acts_if_named s None = false
acts_if_named s (Some session) = end_acts s session

abbrev pub add_session : Server → Message → List ℕ → SetupRequest → Server
add_session s m user r =
    record s {
      present = put s.present m.session_id true;
      sessions = s.sessions + 1;
      user = put s.user m.session_id user;
      client = put s.client m.session_id m.client_guid;
      cipher = put s.cipher m.session_id r.cipher;
      signing = put s.signing m.session_id r.signing;
      channel_numbers_drawn = put s.channel_numbers_drawn m.session_id 1;
      trees = put s.trees m.session_id [];
      next_tree = put s.next_tree m.session_id 1;
      session_on = put s.session_on m.connection (Some m.session_id);
      making = put s.making m.connection None;
    }

abbrev pub join_session : Server → Message → ℕ → Server
join_session s m session =
    record s {
      channel_numbers_drawn = put s.channel_numbers_drawn session (s.channel_numbers_drawn session + 1);
      session_on = put s.session_on m.connection (Some session);
      making = put s.making m.connection None;
    }

abbrev pub next_session : Server → ℕ
next_session s = id_of s.epoch (s.session_ids_given + 1)

abbrev pub add_tree : Server → ℕ → Bool → Server
add_tree s session pipes =
    record s {
      trees = put s.trees session (s.trees session ++ record { id = s.next_tree session; pipes = pipes } ∷ []);
      next_tree = put s.next_tree session (s.next_tree session + 1);
    }

-- ShareType, Capabilities and MaximalAccess of a TREE_CONNECT (MS-SMB2 2.2.10): the pipes, or a continuously available disk
abbrev pub connected : Bool → Body
connected pipes = if pipes then Connected 0x2 0x0 0x1f_01ff else Connected 0x1 0x10 0x1f_01ff

unfoldable pub without_tree : ℕ → List Tree → List Tree
without_tree id [] = []
without_tree id (t ∷ ts) = if t.id == id then without_tree id ts else t ∷ without_tree id ts

-- the opens of a tree, in the order of their ids
unfoldable pub tree_opens_in : Server → ℕ → ℕ → List ℕ → List ℕ
tree_opens_in s session tree [] = []
tree_opens_in s session tree (o ∷ os) = if is_of_tree s o session tree then o ∷ tree_opens_in s session tree os else tree_opens_in s session tree os

abbrev pub opens_of_tree : Server → ℕ → ℕ → List ℕ
opens_of_tree s session tree = tree_opens_in s session tree s.opens

-- the session keeps the guid of each of them as that of a closed open
unfoldable pub keep_all_closed : Server → ℕ → List ℕ → Server
keep_all_closed s session [] = s
keep_all_closed s session (o ∷ os) = keep_all_closed (keep_closed s session (s.opened o).create_guid) session os

-- as many CLOSEs would do it: each open leaves, and its file with it where it goes
abbrev pub close_all : Server → ℕ → List ℕ → Server
close_all s session os = keep_all_closed (leave_all s os) session os

-- the tree goes, and each open of it is closed
abbrev pub drop_tree : Server → ℕ → ℕ → Server
drop_tree s session tree = record (close_all s session (opens_of_tree s session tree)) {
  trees = put s.trees session (without_tree tree (s.trees session));
}

-- ---- by verdict

abbrev pub apply : Server → Message → ℕ → Verdict → Answer
apply s m now (Refuse status) = quiet s m status Empty
apply s m now (Give body) = quiet s m success body
apply s m now (KeepRefusal guid status) = quiet (keep_refusal s m.session_id guid status) m status Empty
apply s m now (Repeat o r) = answer_with (attached s m o) m success (create_reply s o r (s.opened o).action) [] false (attaches s o)
apply s m now (Attach o r) = answer_with (attached s m o) m success (create_reply s o r 1) [] false (attaches s o)
apply s m now (Make r found action) = made s m r found action now
apply s m now (TurnDown o status) = quiet_on s m o status Empty
apply s m now (Tell o body) = quiet_on s m o success body
apply s m now (Show o place body) = answer_with (record (reach s m o) {
  enumeration_location = listed_at s.enumeration_location o place;
  current_byte_offset = positioned_at s.current_byte_offset o place;
}) m success body [] false (reaches s m o)
apply s m now (KeepSlot o index number status elements) =
    answer_with (keep_slot (reach s m o) o index number status) m status Empty
    (lock_records s m o index number status elements) false (reaches s m o)
apply s m now (PutRanges o index number ranges elements) =
    answer_with (keep_slot (set_ranges (reach s m o) (file_of s o) ranges) o index number success) m success Empty
    (lock_records s m o index number success elements) true (reaches s m o)
apply s m now (Alter o change body) =
    record {
      server = change_file (reach s m o) (file_of s o) now change;
      reply = record { status = success; session_id = m.session_id; tree_id = m.tree_id; body = body };
      records = change_records m (file_of s o) now change;
      acted = change_acts s (file_of s o) now change;
      reached = reaches s m o;
      altered = Some o;
    }
apply s m now (CloseOpen o body) = answer_with (keep_closed (leave_open s o) m.session_id (s.opened o).create_guid) m
    success body (leave_records s (origin_of m) o) true (reaches s m o)
apply s m now Challenge =
    record {
      server = record s {
        session_ids_given = s.session_ids_given + 1;
        making = put s.making m.connection (Some (NewSession (next_session s)));
      };
      reply = record { status = more_processing_required; session_id = next_session s; tree_id = m.tree_id; body = Empty };
      records = [];
      acted = false;
      reached = None;
      altered = None;
    }
apply s m now (ChallengeBinding session) = quiet (record s {
  making = put s.making m.connection (Some (Binding session));
}) m more_processing_required Empty
apply s m now (Begin session user previous r is_quiet) =
    answer_with (add_session (end_if_named s now previous is_quiet) m user r) m success (SetUp s.encrypts 1)
    (records_if_named s (origin_of m) previous is_quiet) (acts_if_named s previous) None
apply s m now (Join session) = quiet (join_session s m session) m success (SetUp s.encrypts (s.channel_numbers_drawn session + 1))
apply s m now (EndSession session is_quiet) = answer_with (end_session s session now is_quiet) m success Empty
    (end_records s (origin_of m) session is_quiet) (end_acts s session) None
apply s m now (AddTree pipes) =
    record {
      server = add_tree s m.session_id pipes;
      reply = record { status = success; session_id = m.session_id; tree_id = s.next_tree m.session_id; body = connected pipes };
      records = [];
      acted = false;
      reached = None;
      altered = None;
    }
apply s m now DropTree =
    answer_with (drop_tree s m.session_id m.tree_id) m success Empty
    (leave_all_records s (origin_of m) (opens_of_tree s m.session_id m.tree_id))
    (is_filled (opens_of_tree s m.session_id m.tree_id)) None
